-- Own fields, and references to those of other definitions.
use Rattle.std.specs.Prelude.{ℕ, Bool, true, false, not, Option, Some, None, option_and_then, option_map, slice_get}
use Rattle.std.specs.Option.{option_map_or}
use Rattle.ac_types.specs.Types.{Bytes, Typ}
use Rattle.ac_terms.specs.Terms.{Home, In, Expr, Bracket}
use Rattle.ac_terms.specs.Defs.{Environment, Field, Def, AnImport, def_of, module_behind, field_number}
use Rattle.ac_rules.specs.Views.{Coloured, view}
use Rattle.ac_rules.specs.Links.{is_exact}
use Rattle.ac_rules.specs.Typing.{fields_of, value_in}

-- field f of a home, as a term
abbrev pub own_field : Environment → Home → ℕ → Option Expr
own_field E c f = option_map (λ (x : Field). x.term) (slice_get (fields_of E c) f)

-- where the value x of entry j comes from: a field of a module, by their numbers
abbrev pub target : Environment → ℕ → Bytes → Option (ℕ × ℕ)
target E j x =
    option_and_then (λ m. option_map (λ f. (m, f)) (field_number x (fields_of E (In m)))) (option_and_then (module_behind j) (slice_get E j))

abbrev pub is_by_version : Def → Bool
is_by_version (AnImport i) = not (is_exact i.constraint)
is_by_version _ = false

-- the way of a value to the field of a module, by their numbers. T is the value's type in its own entry, and S its type in the module, as the module itself sees it
pub data Route : Type 0 where
  Nowhere : Route
  -- through a bracket of the module at T
  Once : ℕ → ℕ → Typ → Route
  -- through a bracket of an import by version at T, and inside it one of the module at S
  Twice : ℕ → ℕ → Typ → Typ → Route

abbrev pub through : Bool → Option (ℕ × ℕ) → Option Typ → Option Typ → Route
through false (Some p) (Some T) S = Once p.0 p.1 T
through true (Some p) (Some T) (Some S) = Twice p.0 p.1 T S
through _ _ _ _ = Nowhere

abbrev pub seen_inside : Environment → Bytes → ℕ × ℕ → Option Typ
seen_inside E x p = option_map (view Coloured E (In p.0)) (value_in E p.0 x)

abbrev pub route : Environment → ℕ → Bytes → Route
route E j x =
    let p = target E j x in
    through (option_map_or is_by_version (def_of E j) false) p (value_in E j x) (option_and_then (seen_inside E x) p)

-- the term of the field, in the brackets of the way
abbrev pub routed : Environment → ℕ → Route → Option Expr
routed E j Nowhere = None
routed E j (Once m f T) = option_map (Bracket (In m) T) (own_field E (In m) f)
routed E j (Twice m f T S) = option_map (λ e. Bracket (In j) T (Bracket (In m) S e)) (own_field E (In m) f)

abbrev pub referred : Environment → ℕ → Bytes → Option Expr
referred E j x = routed E j (route E j x)
