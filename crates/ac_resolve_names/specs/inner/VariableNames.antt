-- The variables of the code as a list of names, the newest first.
use Rattle.std.specs.Prelude.{ℕ, List, [], ◌∷◌, map, ◌+◌, Option, Some, None, option_map}
use Rattle.ac_types.specs.Types.{Bytes}
use Rattle.ac_syntax.specs.ReadTrees.{name_of}
use Rattle.ac_resolve_scopes.specs.Scopes.{scope_with}
use Rattle.ac_resolve_names.specs.declared.variables.Variables.{Variables, fold-Variables}
use Rattle.ac_resolve_names.specs.declared.variables.Variables.TheOpen.{Variables-F}

abbrev pub variables_layer : Variables-F (List Bytes) → List Bytes
variables_layer Variables-F.Empty = []
variables_layer (Variables-F.Inner outer name) = name.now.word ∷ outer.now
variables_layer (Variables-F.Arm outer names) = scope_with (map name_of names.now) outer.now

unfoldable pub names_in : Variables → List Bytes
names_in = fold-Variables (List Bytes) variables_layer

-- the number of binders to a name, where it is known how many of a front of the scope stand before it, or that none of them is it
abbrev pub passed : Option ℕ → ℕ → Option ℕ → Option ℕ
passed (Some i) n o = Some i
passed None n o = option_map (λ i. n + i) o
