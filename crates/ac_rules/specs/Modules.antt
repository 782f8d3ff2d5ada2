-- What is asked of a definition.
use Rattle.std.specs.Prelude.{ℕ, suc, ◌+◌, ◌&&◌, ◌||◌, not, Bool, true, false, nat_lt, is_some, is_none, List, [], ◌∷◌, ◌++◌, length, take, map, Option, Some, None, option_map}
use Rattle.std.specs.List.{list_all, list_any}
use Rattle.std.specs.Option.{option_map_or, option_or}
use Rattle.ac_types.specs.Partial.{first_failing, has}
use Rattle.ac_types.specs.Types.{Bytes, Typ, TInt, TBool, TStr, TUnit, TExn, TTuple, TList, TOpt, TFun, TAbs, TMine, Typs, no_types, typ, same_bytes, with_mine}
use Rattle.ac_types.specs.Sigs.{Typed_name, Sig_type, Signature, Constraint, Ranges, Exact, named_type, type_under, is_abstract}
use Rattle.ac_terms.specs.Terms.{In, Expr, Int, Boolean, Str, Unit', Exn, ExnOf, Tuple, Nil, Empty, Present, Cons, Var, Own, Ref, Lam, Rec, App, Let, If, Seq, Match, Try, Raise, Prim, Marshal, Unmarshal, Val, Evaluated, Bracket, Exprs, no_exprs, expr}
use Rattle.ac_terms.specs.Defs.{Environment, Field, Module, Import, Def, AModule, AnImport, AMark, signature_at}
use Rattle.ac_terms.specs.Parts.{part_refs, part_mentions, def_parts, has_captured}
use Rattle.ac_terms.specs.Bounds.{has_small_types}
use Rattle.ac_rules.specs.Views.{Coloured, view, is_known}
use Rattle.ac_rules.specs.Typing.{type_of, of_field}

-- valuable: an expression that a field may have, since it computes nothing
abbrev mutual
  pub is_valuable : Expr → Bool
  is_valuable (Int n) = true
  is_valuable (Boolean b) = true
  is_valuable (Str s) = true
  is_valuable Unit' = true
  is_valuable (Exn k) = true
  is_valuable (ExnOf k e) = is_valuable e
  is_valuable (Tuple es) = are_valuable es
  is_valuable (Nil T) = true
  is_valuable (Empty T) = true
  is_valuable (Present e) = is_valuable e
  is_valuable (Cons a b) = is_valuable a && is_valuable b
  is_valuable (Var i) = false
  is_valuable (Own f) = true
  is_valuable (Ref j x) = true
  is_valuable (Lam T e) = true
  is_valuable (Rec T U e) = true
  is_valuable (App f a) = false
  is_valuable (Let T e b) = false
  is_valuable (If c a b) = false
  is_valuable (Seq es) = false
  is_valuable (Match e arms) = false
  is_valuable (Try e arms) = false
  is_valuable (Raise T e) = false
  is_valuable (Prim k es) = false
  is_valuable (Marshal T m e) = false
  is_valuable (Unmarshal T e) = false
  is_valuable (Val T v) = false
  is_valuable (Evaluated T v) = false
  is_valuable (Bracket c T e) = false

  pub are_valuable : Exprs → Bool
  are_valuable no_exprs = true
  are_valuable (expr e es) = is_valuable e && are_valuable es

-- a type of a module's signature as the struct has it: an own abstract type is the struct's type
abbrev pub inside_struct : Module → Typ → Typ
inside_struct m T = with_mine (λ t. elim (named_type t m.types) [ None ↦ TMine t | Some U ↦ U ]) T

-- covered: an abstract type is there, a manifest type is there and equal
abbrev pub covers_type : Module → Sig_type → Bool
covers_type m s = elim s.manifest [ None ↦ is_some (named_type s.name m.types) | Some T ↦ has (named_type s.name m.types) (inside_struct m T) ]

-- and a value is there with the spec's type
abbrev pub field_named : Bytes → List Field → Option Typ
field_named x [] = None
field_named x (f ∷ fs) = elim (same_bytes f.name x) [ true ↦ Some f.ty | false ↦ field_named x fs ]

abbrev pub covers_val : Module → Typed_name → Bool
covers_val m v = has (field_named v.name m.fields) (inside_struct m v.ty)

-- the first spec that a struct doesn't cover, types first
abbrev pub uncovered : Module → Option ℕ
uncovered m =
    option_or (first_failing (covers_type m) m.sig.types)
    (option_map (λ k. length m.sig.types + k) (first_failing (covers_val m) m.sig.vals))

-- the first abstract type without a likespec
abbrev pub like_missing : Import → Option ℕ
like_missing i = first_failing (λ (s : Sig_type). is_some s.manifest || is_some (named_type s.name i.like)) i.sig.types

-- an import by version has a likespec for each abstract type, one by exact name has none
abbrev pub has_right_likes : Constraint → Import → Bool
has_right_likes (Ranges rs star) i = is_none (like_missing i)
has_right_likes (Exact n) i = elim i.like [ [] ↦ true | x ∷ xs ↦ false ]

-- no name twice
abbrev pub are_distinct : List Bytes → Bool
are_distinct [] = true
are_distinct (x ∷ xs) = not (list_any (same_bytes x) xs) && are_distinct xs

abbrev pub are_distinct_names : List Typed_name → Bool
are_distinct_names xs = are_distinct (map (λ (x : Typed_name). x.name) xs)

abbrev pub is_distinct_sig : Signature → Bool
is_distinct_sig s = are_distinct (map (λ (x : Sig_type). x.name) s.types) && are_distinct_names s.vals

-- the own abstract types that a type mentions
abbrev mutual
  pub mine : Typ → List Bytes
  mine TInt = []
  mine TBool = []
  mine TStr = []
  mine TUnit = []
  mine TExn = []
  mine (TTuple Ts) = all_mine Ts
  mine (TList T) = mine T
  mine (TOpt T) = mine T
  mine (TFun T U) = mine T ++ mine U
  mine (TAbs n t) = []
  mine (TMine t) = t ∷ []

  pub all_mine : Typs → List Bytes
  all_mine no_types = []
  all_mine (typ T Ts) = mine T ++ all_mine Ts

-- each own type that a signature mentions is an abstract type of it
abbrev pub is_closed : Signature → Typ → Bool
is_closed s T = list_all (λ t. is_abstract (type_under t s.types)) (mine T)

abbrev pub is_closed_sig : Signature → Bool
is_closed_sig s =
    list_all (λ (x : Sig_type). option_map_or (is_closed s) x.manifest true) s.types && list_all (λ (x : Typed_name). is_closed s x.ty) s.vals

-- field g of entry i has the type that it writes, as the entry sees it, and so have those after it
abbrev pub is_typed : Environment → ℕ → ℕ → Field → Bool
is_typed E i g f = has (type_of Coloured false E (of_field i g) f.term) (view Coloured E (In i) f.ty)

abbrev pub are_typed : Environment → ℕ → ℕ → List Field → Bool
are_typed E i g [] = true
are_typed E i g (f ∷ fs) = is_typed E i g f && are_typed E i (suc g) fs

-- what is asked of the definition of entry i, one by one. It refers to earlier definitions, no marks
abbrev pub refers_back : Environment → ℕ → Def → Bool
refers_back E i d = list_all (λ j. nat_lt j i && is_some (signature_at E j)) (part_refs (def_parts d))

-- each n.t that it mentions is abstract in the signature of an earlier entry named n
abbrev pub mentions_known : Environment → ℕ → Def → Bool
mentions_known E i d = list_all (is_known (take i E)) (part_mentions (def_parts d))

-- its types are small, and no captured value stands in it
abbrev pub is_plain_def : Def → Bool
is_plain_def d = has_small_types (def_parts d) && not (has_captured (def_parts d))

-- names are distinct in each of its lists
abbrev pub has_distinct_names : Def → Bool
has_distinct_names (AModule m) = is_distinct_sig m.sig && are_distinct_names m.types && are_distinct (map (λ (f : Field). f.name) m.fields)
has_distinct_names (AnImport i) = is_distinct_sig i.sig && are_distinct_names i.like
has_distinct_names (AMark t) = true

-- its signature speaks of no own type but its abstract ones
abbrev pub has_closed_sig : Def → Bool
has_closed_sig (AModule m) = is_closed_sig m.sig
has_closed_sig (AnImport i) = is_closed_sig i.sig
has_closed_sig (AMark t) = true

-- a module's fields are valuable, typed, and cover its signature
abbrev pub has_sound_fields : Environment → ℕ → Def → Bool
has_sound_fields E i (AModule m) = list_all (λ (f : Field). is_valuable f.term) m.fields && are_typed E i 0 m.fields && is_none (uncovered m)
has_sound_fields E i (AnImport m) = true
has_sound_fields E i (AMark t) = true

-- an import has the likespecs that its kind wants
abbrev pub has_sound_likes : Def → Bool
has_sound_likes (AModule m) = true
has_sound_likes (AnImport i) = has_right_likes i.constraint i
has_sound_likes (AMark t) = true

-- all of it
abbrev pub is_well_formed : Environment → ℕ → Def → Bool
is_well_formed E i d =
    refers_back E i d && mentions_known E i d && is_plain_def d && has_distinct_names d && has_closed_sig d && has_sound_fields E i d && has_sound_likes d
