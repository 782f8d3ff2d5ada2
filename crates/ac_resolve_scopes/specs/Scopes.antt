-- The scope of a place in a text: what each name means there.
use Rattle.std.specs.Prelude.{ℕ, suc, not, true, false, List, [], ◌∷◌, ◌++◌, length, Option, Some, None, option_map, option_and_then, unwrap_or}
use Rattle.std.specs.Option.{option_or}
use Rattle.ac_types.specs.Partial.{given}
use Rattle.ac_types.specs.Types.{Bytes, Typ, TAbs, TMine, same_bytes, with_mine}
use Rattle.ac_types.specs.Sigs.{Signature, named_type, type_under}
use Rattle.ac_terms.specs.Terms.{Expr, Var, Own, Ref, Lam, Prim, no_exprs, expr}
use Rattle.ac_terms.specs.Defs.{Environment, Entry, Def, AModule, AnImport, AMark, signature_at, name_at}
use Rattle.ac_syntax.specs.Trees.{NameAt}
use Rattle.ac_resolve_scopes.specs.Standard.{NamedPrimitive, beside_name, is_standard, primitive_named}

pub record NameScope : Type 0 where
  -- the entries in front, and the numbers of those that are called by their external names, the latest first
  pub entries : Environment
  pub externals : List (Bytes × ℕ)
  -- the types with a plain name: those in front of it in its signature, struct or likespec, the latest first
  pub types : List (Bytes × Typ)
  -- the fields in front of it in its struct, the latest first
  pub fields : List Bytes
  -- the variables, the newest first
  pub variables : List Bytes

-- behind these entries, none of which is called by its name
abbrev pub scope_behind : Environment → NameScope
scope_behind E = record { entries = E; externals = []; types = []; fields = []; variables = [] }

-- how many names stand behind the first of this name
abbrev pub own_number : Bytes → List Bytes → Option ℕ
own_number x [] = None
own_number x (y ∷ names) = elim (same_bytes y x) [ true ↦ Some (length names) | false ↦ own_number x names ]

-- how many names stand in front of it
abbrev pub binders_to : Bytes → List Bytes → Option ℕ
binders_to x [] = None
binders_to x (y ∷ names) = elim (same_bytes y x) [ true ↦ Some 0 | false ↦ option_map suc (binders_to x names) ]

-- the entry that an external name calls: of two with one name the later
abbrev pub definition : NameScope → Bytes → Option ℕ
definition S m = beside_name m S.externals

-- in front of a dot `IO` and `Str` are the standard modules, also where a definition is called so
abbrev pub before_dot : NameScope → Bytes → Option ℕ
before_dot S m = given (not (is_standard m)) (definition S m)

-- A type of entry j from outside: its manifest type, or it is abstract. The signature's own types are those of the entry's name.
abbrev pub type_outside : Environment → Bytes → ℕ → Option Typ
type_outside E t j =
    option_and_then (λ (s : Signature). option_map (λ m. with_mine (TAbs (unwrap_or (name_at E j) [])) (unwrap_or m (TMine t))) (type_under t s.types)) (signature_at E j)

-- a value of entry j from outside
abbrev pub value_outside : Environment → Bytes → ℕ → Option Expr
value_outside E x j = option_and_then (λ (s : Signature). option_map (λ (T : Typ). Ref j x) (named_type x s.vals)) (signature_at E j)

-- a primitive, applied; by itself it is a function that applies it
abbrev pub primitive_of : NamedPrimitive → Expr → Expr
primitive_of p a = Prim p.number (expr a no_exprs)

abbrev pub primitive_function : NamedPrimitive → Expr
primitive_function p = Lam p.argument (primitive_of p (Var 0))

-- what `t` and `M.t` mean
abbrev pub plain_type : NameScope → Bytes → Option Typ
plain_type S t = beside_name t S.types

abbrev pub dotted_type : NameScope → Bytes → Bytes → Option Typ
dotted_type S m t = option_and_then (type_outside S.entries t) (before_dot S m)

-- what `x` and `M.x` mean: a variable hides a field
abbrev pub plain_value : NameScope → Bytes → Option Expr
plain_value S x = option_or (option_map Var (binders_to x S.variables)) (option_map Own (own_number x S.fields))

abbrev pub dotted_value : NameScope → Bytes → Bytes → Option Expr
dotted_value S m x = option_or (option_map primitive_function (primitive_named m x)) (option_and_then (value_outside S.entries x) (before_dot S m))

-- behind variables that are bound one after another
abbrev pub scope_with : List NameAt → List Bytes → List Bytes
scope_with [] names = names
scope_with (x ∷ xs) names = scope_with xs (x.word ∷ names)

abbrev pub with_variables : List NameAt → NameScope → NameScope
with_variables xs S = record S { variables = scope_with xs S.variables }

-- behind a type, and behind a field
abbrev pub with_type_name : NameAt → Typ → NameScope → NameScope
with_type_name t T S = record S { types = (t.word, T) ∷ S.types }

abbrev pub with_field : NameAt → NameScope → NameScope
with_field x S = record S { fields = x.word ∷ S.fields }

-- behind an entry: modules and imports are called by their names, marks aren't
abbrev pub external_names : Def → ℕ → List (Bytes × ℕ) → List (Bytes × ℕ)
external_names (AModule m) j names = (m.name, j) ∷ names
external_names (AnImport i) j names = (i.name, j) ∷ names
external_names (AMark text) j names = names

abbrev pub with_entry : NameScope → Entry → NameScope
with_entry S e = record (scope_behind (S.entries ++ e ∷ [])) { externals = external_names e.def (length S.entries) S.externals }

-- Of items that stand one behind another, where `after` is the scope behind an item: the scope behind all, and what each gives in its own.
abbrev pub after_all : {A : Type 0} → (NameScope → A → NameScope) → NameScope → List A → NameScope
after_all after S [] = S
after_all after S (x ∷ xs) = after_all after (after S x) xs

abbrev pub each_in : {A B : Type 0} → (NameScope → A → NameScope) → (NameScope → A → List B) → NameScope → List A → List B
each_in after gives S [] = []
each_in after gives S (x ∷ xs) = gives S x ++ each_in after gives (after S x) xs
