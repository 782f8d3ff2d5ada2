-- What is wrong with names of definitions, where they are called and where they are given.
use Rattle.std.specs.Prelude.{ℕ, Bool, true, false, ◌||◌, is_some, Option, Some, None}
use Rattle.ac_syntax.specs.Trees.{NameAt}
use Rattle.ac_resolve_scopes.specs.Standard.{is_standard, primitive_named}
use Rattle.ac_resolve_signatures.specs.declared.flaws.Flaws.{Flaws}
use Rattle.ac_resolve_signatures.specs.Joined.{missing, repeats}
use Rattle.ac_resolve_signatures.specs.KnownScopes.{KnownScope, is_value_behind}
use Rattle.ac_resolve_scopes.specs.Repeated.{standard_name}

-- the place, where a test fails
abbrev pub place_unless : Bool → ℕ → Option ℕ
place_unless true at = None
place_unless false at = Some at

-- of `M.x` the first name is unbound, or the second
abbrev pub place_behind : Bool → Bool → NameAt → NameAt → Option ℕ
place_behind false there m x = Some m.at
place_behind true there m x = place_unless there x.at

-- what `M.x` calls
abbrev pub dotted_flaws : KnownScope → NameAt → NameAt → Flaws
dotted_flaws K m x = missing (place_behind (is_standard m.word || is_some (K.outer m.word)) (is_some (primitive_named m.word x.word) || is_value_behind K m.word x.word) m x)

-- the names of the standard modules are taken
abbrev pub name_flaws : NameAt → Flaws
name_flaws name = repeats (standard_name name)
