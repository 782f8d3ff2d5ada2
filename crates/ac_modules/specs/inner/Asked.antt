-- Lists of types as a struct has them, and types with likespecs.
use Rattle.std.specs.Prelude.{Bool, ◌||◌, is_some, List, None, Some}
use Rattle.ac_types.specs.Types.{TMine, Typs, all_with_mine}
use Rattle.ac_types.specs.Sigs.{Typed_name, Sig_type, named_type}
use Rattle.ac_terms.specs.Defs.{Module}

-- types of a module's signature as the struct has them
abbrev pub all_inside : Module → Typs → Typs
all_inside m Ts = all_with_mine (λ t. elim (named_type t m.types) [ None ↦ TMine t | Some U ↦ U ]) Ts

-- a type that is manifest, or has a likespec
abbrev pub has_like : List Typed_name → Sig_type → Bool
has_like like s = is_some s.manifest || is_some (named_type s.name like)
