-- What has a spelling, and which bytes spell a packet.
use Rattle.std.specs.Prelude.{◌≡◌, ℕ, ℤ, pos, negsuc, zero, suc, ◌==◌, ◌+◌, ◌^◌, ◌≤◌, ◌&&◌, ◌||◌, Bool, true, false, not, nat_lt, nat_le, nat_eq, List, [], ◌∷◌, length, map, None, IsTrue, slice_index}
use Rattle.std.specs.List.{list_all}
use Rattle.std.specs.Option.{option_map_or}
use Rattle.ac_types.specs.Limits.{longest_string, longest_packet, widest_tuple, most_arms, most_version_atoms, longest_uri, most_items, most_resolves, deepest_nesting}
use Rattle.ac_types.specs.Words.{is_word, is_between}
use Rattle.ac_types.specs.Types.{Bytes, Typ, TInt, TBool, TStr, TUnit, TExn, TTuple, TList, TOpt, TFun, TAbs, TMine, Typs, no_types, typ, is_small}
use Rattle.ac_terms.specs.Terms.{Home, Main, In, Pattern, PWild, PVar, PInt, PBool, PStr, PUnit, PTuple, PNil, PCons, PAbsent, PPresent, PExn, PExnOf, Patterns, no_patterns, pattern', Expr, Int, Boolean, Str, Unit', Exn, ExnOf, Tuple, Nil, Empty, Present, Cons, Var, Own, Ref, Lam, Rec, App, Let, If, Seq, Match, Try, Raise, Prim, Marshal, Unmarshal, Val, Evaluated, Bracket, Exprs, no_exprs, expr, Arms, no_arms, arm, PValue, KInt, KBool, KStr, KUnit, KExn, KTuple, KList, KAbsent, KPresent, KFun, PValues, no_pvalues, pvalue}
use Rattle.ac_types.specs.Sigs.{Typed_name, Sig_type, Signature, Atom, Number, MyName, Range, One, Between, UpTo, From, Constraint, Ranges, Exact, Resolve, StaticLink, HereAlready, Uri}
use Rattle.ac_terms.specs.Defs.{Field, Def, AModule, AnImport, AMark, Packet}
use Rattle.ac_types.specs.Exceptions.{has_text}
use Rattle.ac_terms.specs.PrimitiveTypes.{is_exception, Rule, primitives}
use Rattle.ac_terms.specs.Spelling.{type_count, pattern_count, term_count, arm_count, value_count, packet_bytes}
use Rattle.ac_terms.specs.Nesting.{nesting, value_nesting}
use Rattle.ac_terms.specs.Parts.{Portion, part_types, def_parts, value_parts}

-- identifiers that begin with a lower letter or `_`, and with an upper letter
abbrev pub is_lower : Bytes → Bool
is_lower w = is_word w && (is_between 97 122 (slice_index w 0) || slice_index w 0 == 95)

abbrev pub is_upper : Bytes → Bool
is_upper w = is_word w && is_between 65 90 (slice_index w 0)

-- a name has 32 bytes
abbrev pub is_name : Bytes → Bool
is_name n = nat_eq (length n) 32

abbrev pub is_string : Bytes → Bool
is_string s = nat_le (length s) longest_string

-- numbers of two bytes, of four bytes, and signed ones of eight
abbrev pub is_two : ℕ → Bool
is_two n = nat_lt n (2 ^ 16)

abbrev pub is_four : ℕ → Bool
is_four n = nat_lt n (2 ^ 32)

abbrev pub is_integer : ℤ → Bool
is_integer (pos n) = nat_lt n (2 ^ 63)
is_integer (negsuc n) = nat_lt n (2 ^ 63)

-- how many parts a tuple may have
abbrev pub is_width : ℕ → Bool
is_width n = nat_le 2 n && nat_le n widest_tuple

-- a type; an own abstract type stands in a signature alone
abbrev mutual
  pub fits_type : Bool → Typ → Bool
  fits_type own TInt = true
  fits_type own TBool = true
  fits_type own TStr = true
  fits_type own TUnit = true
  fits_type own TExn = true
  fits_type own (TTuple Ts) = is_width (type_count Ts) && fit_types own Ts
  fits_type own (TList T) = fits_type own T
  fits_type own (TOpt T) = fits_type own T
  fits_type own (TFun T U) = fits_type own T && fits_type own U
  fits_type own (TAbs n t) = is_name n && is_lower t
  fits_type own (TMine t) = own && is_lower t

  pub fit_types : Bool → Typs → Bool
  fit_types own no_types = true
  fit_types own (typ T Ts) = fits_type own T && fit_types own Ts

abbrev mutual
  pub fits_pattern : Pattern → Bool
  fits_pattern PWild = true
  fits_pattern (PVar T) = fits_type false T
  fits_pattern (PInt n) = is_integer n
  fits_pattern (PBool b) = true
  fits_pattern (PStr s) = is_string s
  fits_pattern PUnit = true
  fits_pattern (PTuple ps) = is_width (pattern_count ps) && fit_patterns ps
  fits_pattern PNil = true
  fits_pattern (PCons p q) = fits_pattern p && fits_pattern q
  fits_pattern PAbsent = true
  fits_pattern (PPresent p) = fits_pattern p
  fits_pattern (PExn k) = is_exception k None
  fits_pattern (PExnOf k p) = has_text k && fits_pattern p

  pub fit_patterns : Patterns → Bool
  fit_patterns no_patterns = true
  fit_patterns (pattern' p ps) = fits_pattern p && fit_patterns ps

-- whether a primitive takes so many arguments
abbrev pub takes : List (List Rule) → ℕ → ℕ → Bool
takes [] k n = false
takes ([] ∷ rest) k n = false
takes ((r ∷ rs) ∷ rest) zero n = nat_eq (type_count r.0) n
takes ((r ∷ rs) ∷ rest) (suc k) n = takes rest k n

-- a function travels as a lambda or a recursive lambda
abbrev pub is_lambda : Expr → Bool
is_lambda (Lam T e) = true
is_lambda (Rec T U e) = true
is_lambda _ = false

-- whether a term is a lambda, or a recursive one where that is wanted
abbrev pub is_wanted : Expr → Bool → Bool
is_wanted (Lam T e) r = not r
is_wanted (Rec T U e) r = r
is_wanted _ _ = false

abbrev pub fits_home : Home → Bool
fits_home Main = true
fits_home (In k) = is_two (k + 1)

-- a term; a captured value stands only within a function of a packed value
abbrev mutual
  pub fits_term : Bool → Expr → Bool
  fits_term within (Int n) = is_integer n
  fits_term within (Boolean b) = true
  fits_term within (Str s) = is_string s
  fits_term within Unit' = true
  fits_term within (Exn k) = is_exception k None
  fits_term within (ExnOf k e) = has_text k && fits_term within e
  fits_term within (Tuple es) = is_width (term_count es) && fit_terms within es
  fits_term within (Nil T) = fits_type false T
  fits_term within (Empty T) = fits_type false T
  fits_term within (Present e) = fits_term within e
  fits_term within (Cons a b) = fits_term within a && fits_term within b
  fits_term within (Var i) = is_two i
  fits_term within (Own f) = is_two f
  fits_term within (Ref j x) = is_two j && is_lower x
  fits_term within (Lam T e) = fits_type false T && fits_term within e
  fits_term within (Rec T U e) = fits_type false T && fits_type false U && fits_term within e
  fits_term within (App f a) = fits_term within f && fits_term within a
  fits_term within (Let T e b) = fits_type false T && fits_term within e && fits_term within b
  fits_term within (If c a b) = fits_term within c && fits_term within a && fits_term within b
  fits_term within (Seq es) = nat_le 2 (term_count es) && is_four (term_count es) && fit_terms within es
  fits_term within (Match e arms) = fits_term within e && fit_arms within arms && nat_le 1 (arm_count arms) && nat_le (arm_count arms) most_arms
  fits_term within (Try e arms) = fits_term within e && fit_arms within arms && nat_le 1 (arm_count arms) && nat_le (arm_count arms) most_arms
  fits_term within (Raise T e) = fits_type false T && fits_term within e
  fits_term within (Prim k es) = takes primitives k (term_count es) && fit_terms within es
  fits_term within (Marshal T m e) = fits_type false T && fits_term within m && fits_term within e
  fits_term within (Unmarshal T e) = fits_type false T && fits_term within e
  fits_term within (Val T v) = within && fits_type false T && fits_value v
  fits_term within (Evaluated T v) = false
  fits_term within (Bracket c T e) = false

  pub fit_terms : Bool → Exprs → Bool
  fit_terms within no_exprs = true
  fit_terms within (expr e es) = fits_term within e && fit_terms within es

  pub fit_arms : Bool → Arms → Bool
  fit_arms within no_arms = true
  fit_arms within (arm p e rest) = fits_pattern p && fits_term within e && fit_arms within rest

  pub fits_value : PValue → Bool
  fits_value (KInt n) = is_integer n
  fits_value (KBool b) = true
  fits_value (KStr s) = is_string s
  fits_value KUnit = true
  fits_value (KExn k s) = is_exception k s && option_map_or is_string s true
  fits_value (KTuple vs) = is_width (value_count vs) && fit_values vs
  fits_value (KList vs) = is_four (value_count vs) && fit_values vs
  fits_value KAbsent = true
  fits_value (KPresent v) = fits_value v
  fits_value (KFun h l) = fits_home h && is_lambda l && fits_term true l

  pub fit_values : PValues → Bool
  fit_values no_pvalues = true
  fit_values (pvalue v vs) = fits_value v && fit_values vs

abbrev pub fits_atom : Atom → Bool
fits_atom (Number n) = is_four n
fits_atom MyName = true

abbrev pub fits_range : Range → Bool
fits_range (One n) = is_four n
fits_range (Between n m) = is_four n && is_four m
fits_range (UpTo n) = is_four n
fits_range (From n) = is_four n

abbrev pub fits_constraint : Constraint → Bool
fits_constraint (Ranges rs star) = list_all fits_range rs && nat_le (length rs) most_version_atoms && (star || nat_le 1 (length rs))
fits_constraint (Exact n) = is_name n

abbrev pub fits_resolve : Resolve → Bool
fits_resolve StaticLink = true
fits_resolve HereAlready = true
fits_resolve (Uri u) = nat_le (length u) longest_uri

abbrev pub fits_typed : Bool → Typed_name → Bool
fits_typed own x = is_lower x.name && fits_type own x.ty

abbrev pub fits_sig : Signature → Bool
fits_sig s =
    nat_le (length s.types) most_items && nat_le (length s.vals) most_items &&
    list_all (λ (t : Sig_type). is_lower t.name && option_map_or (fits_type true) t.manifest true) s.types && list_all (fits_typed true) s.vals

-- a definition within the bounds, but for nesting and the size of types
abbrev pub fits_def : Def → Bool
fits_def (AModule m) =
    is_upper m.name && nat_le 1 (length m.version) && nat_le (length m.version) most_version_atoms && list_all fits_atom m.version && fits_sig m.sig &&
    nat_le (length m.types) most_items && list_all (fits_typed false) m.types &&
    nat_le (length m.fields) most_items && list_all (λ (f : Field). is_lower f.name && fits_type false f.ty && fits_term false f.term) m.fields
fits_def (AnImport i) =
    is_upper i.name && fits_sig i.sig && fits_constraint i.constraint && nat_le (length i.like) most_items && list_all (fits_typed false) i.like &&
    nat_le 1 (length i.by) && nat_le (length i.by) most_resolves && list_all fits_resolve i.by
fits_def (AMark t) = is_string t

abbrev pub is_module_or_import : Def → Bool
is_module_or_import (AModule m) = true
is_module_or_import (AnImport i) = true
is_module_or_import (AMark t) = false

-- how far the terms of a definition's fields nest
abbrev pub def_nesting : Def → List ℕ
def_nesting (AModule m) = map (λ (f : Field). nesting f.term) m.fields
def_nesting (AnImport i) = []
def_nesting (AMark t) = []

abbrev pub nests_little : Def → Bool
nests_little d = list_all (λ n. nat_le n deepest_nesting) (def_nesting d)

abbrev pub has_small_types : List Portion → Bool
has_small_types ps = list_all is_small (part_types ps)

-- a packet within the bounds
abbrev pub fits_packet : Packet → Bool
fits_packet p =
    is_two (length p.defs) && list_all is_module_or_import p.defs && list_all fits_def p.defs && list_all nests_little p.defs &&
    list_all (λ d. has_small_types (def_parts d)) p.defs &&
    fits_type false p.ty && is_small p.ty &&
    fits_value p.value && nat_le (value_nesting p.value) deepest_nesting && has_small_types (value_parts p.value)

-- the bytes of a packet within the bounds, and no more than a packet may have
pub record Spells (bytes : Bytes) (p : Packet) : Type 0 where
  pub fits : IsTrue (fits_packet p)
  pub spelled : bytes ≡ packet_bytes p
  pub short : length bytes ≤ longest_packet
