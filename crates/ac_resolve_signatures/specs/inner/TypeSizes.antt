-- The size of types that stand side by side.
use Rattle.std.specs.Prelude.{List, [], ◌∷◌}
use Rattle.ac_types.specs.Types.{Typ}
use Rattle.ac_resolve_signatures.specs.declared.size.Size.{Size}
use Rattle.ac_resolve_signatures.specs.KnownScopes.{size_of, side_by_side}

-- the size of some types behind others
abbrev pub sizes_after : Size → List Typ → Size
sizes_after found [] = found
sizes_after found (T ∷ Ts) = sizes_after (side_by_side found (size_of T)) Ts
