-- What a term, a value or a definition speaks of: types, references and homes.
use Rattle.std.specs.Prelude.{ℕ, Bool, true, false, List, [], ◌∷◌, ◌++◌, map, flat_map, option_to_list}
use Rattle.ac_types.specs.Types.{Bytes, Typ, mentions}
use Rattle.ac_types.specs.Sigs.{Typed_name, Sig_type, Signature}
use Rattle.ac_terms.specs.Terms.{Home, Main, In, Pattern, PWild, PVar, PInt, PBool, PStr, PUnit, PTuple, PNil, PCons, PAbsent, PPresent, PExn, PExnOf, Patterns, no_patterns, pattern', Expr, Int, Boolean, Str, Unit', Exn, ExnOf, Tuple, Nil, Empty, Present, Cons, Var, Own, Ref, Lam, Rec, App, Let, If, Seq, Match, Try, Raise, Prim, Marshal, Unmarshal, Val, Evaluated, Bracket, Exprs, no_exprs, expr, Arms, no_arms, arm, PValue, KInt, KBool, KStr, KUnit, KExn, KTuple, KList, KAbsent, KPresent, KFun, PValues, no_pvalues, pvalue}
use Rattle.ac_terms.specs.Defs.{Field, Def, AModule, AnImport, AMark}

-- the types of a pattern's variables, from left to right
abbrev mutual
  pub pattern_types : Pattern → List Typ
  pattern_types PWild = []
  pattern_types (PVar T) = T ∷ []
  pattern_types (PInt n) = []
  pattern_types (PBool b) = []
  pattern_types (PStr s) = []
  pattern_types PUnit = []
  pattern_types (PTuple ps) = all_pattern_types ps
  pattern_types PNil = []
  pattern_types (PCons p q) = pattern_types p ++ pattern_types q
  pattern_types PAbsent = []
  pattern_types (PPresent p) = pattern_types p
  pattern_types (PExn k) = []
  pattern_types (PExnOf k p) = pattern_types p

  pub all_pattern_types : Patterns → List Typ
  all_pattern_types no_patterns = []
  all_pattern_types (pattern' p ps) = pattern_types p ++ all_pattern_types ps

-- a type, a reference, a home, or that a captured value stands there
pub data Portion : Type 0 where
  OfType : Typ → Portion
  OfRef : ℕ → Bytes → Portion
  OfHome : Home → Portion
  Captured : Portion

-- the parts of a term and of a packed value, from left to right; a value of the reduction is not entered
abbrev mutual
  pub term_parts : Expr → List Portion
  term_parts (Int n) = []
  term_parts (Boolean b) = []
  term_parts (Str s) = []
  term_parts Unit' = []
  term_parts (Exn k) = []
  term_parts (ExnOf k e) = term_parts e
  term_parts (Tuple es) = all_term_parts es
  term_parts (Nil T) = OfType T ∷ []
  term_parts (Empty T) = OfType T ∷ []
  term_parts (Present e) = term_parts e
  term_parts (Cons a b) = term_parts a ++ term_parts b
  term_parts (Var i) = []
  term_parts (Own f) = []
  term_parts (Ref j x) = OfRef j x ∷ []
  term_parts (Lam T e) = OfType T ∷ term_parts e
  term_parts (Rec T U e) = OfType T ∷ OfType U ∷ term_parts e
  term_parts (App f a) = term_parts f ++ term_parts a
  term_parts (Let T e b) = OfType T ∷ term_parts e ++ term_parts b
  term_parts (If c a b) = term_parts c ++ term_parts a ++ term_parts b
  term_parts (Seq es) = all_term_parts es
  term_parts (Match e arms) = term_parts e ++ arm_parts arms
  term_parts (Try e arms) = term_parts e ++ arm_parts arms
  term_parts (Raise T e) = OfType T ∷ term_parts e
  term_parts (Prim k es) = all_term_parts es
  term_parts (Marshal T m e) = OfType T ∷ term_parts m ++ term_parts e
  term_parts (Unmarshal T e) = OfType T ∷ term_parts e
  term_parts (Val T v) = OfType T ∷ Captured ∷ value_parts v
  term_parts (Evaluated T v) = OfType T ∷ Captured ∷ []
  term_parts (Bracket c T e) = OfHome c ∷ OfType T ∷ term_parts e

  pub all_term_parts : Exprs → List Portion
  all_term_parts no_exprs = []
  all_term_parts (expr e es) = term_parts e ++ all_term_parts es

  pub arm_parts : Arms → List Portion
  arm_parts no_arms = []
  arm_parts (arm p e rest) = map OfType (pattern_types p) ++ term_parts e ++ arm_parts rest

  pub value_parts : PValue → List Portion
  value_parts (KInt n) = []
  value_parts (KBool b) = []
  value_parts (KStr s) = []
  value_parts KUnit = []
  value_parts (KExn k s) = []
  value_parts (KTuple vs) = all_value_parts vs
  value_parts (KList vs) = all_value_parts vs
  value_parts KAbsent = []
  value_parts (KPresent v) = value_parts v
  value_parts (KFun h l) = OfHome h ∷ term_parts l

  pub all_value_parts : PValues → List Portion
  all_value_parts no_pvalues = []
  all_value_parts (pvalue v vs) = value_parts v ++ all_value_parts vs

-- the types among some parts
abbrev pub part_types : List Portion → List Typ
part_types [] = []
part_types (OfType T ∷ ps) = T ∷ part_types ps
part_types (OfRef j x ∷ ps) = part_types ps
part_types (OfHome h ∷ ps) = part_types ps
part_types (Captured ∷ ps) = part_types ps

-- the definitions that are referred to
abbrev pub part_refs : List Portion → List ℕ
part_refs [] = []
part_refs (OfType T ∷ ps) = part_refs ps
part_refs (OfRef j x ∷ ps) = j ∷ part_refs ps
part_refs (OfHome h ∷ ps) = part_refs ps
part_refs (Captured ∷ ps) = part_refs ps

-- the definitions that are homes
abbrev pub part_homes : List Portion → List ℕ
part_homes [] = []
part_homes (OfType T ∷ ps) = part_homes ps
part_homes (OfRef j x ∷ ps) = part_homes ps
part_homes (OfHome Main ∷ ps) = part_homes ps
part_homes (OfHome (In k) ∷ ps) = k ∷ part_homes ps
part_homes (Captured ∷ ps) = part_homes ps

-- whether a captured value is among them
abbrev pub has_captured : List Portion → Bool
has_captured [] = false
has_captured (OfType T ∷ ps) = has_captured ps
has_captured (OfRef j x ∷ ps) = has_captured ps
has_captured (OfHome h ∷ ps) = has_captured ps
has_captured (Captured ∷ ps) = true

-- the types of a signature: the manifest ones, then those of its values
abbrev pub sig_types : Signature → List Typ
sig_types s = flat_map (λ (t : Sig_type). option_to_list t.manifest) s.types ++ map (λ (v : Typed_name). v.ty) s.vals

-- the parts of a definition
abbrev pub def_parts : Def → List Portion
def_parts (AModule m) =
    map OfType (sig_types m.sig) ++ map (λ (t : Typed_name). OfType t.ty) m.types ++
    flat_map (λ (f : Field). OfType f.ty ∷ term_parts f.term) m.fields
def_parts (AnImport i) = map OfType (sig_types i.sig) ++ map (λ (t : Typed_name). OfType t.ty) i.like
def_parts (AMark t) = []

-- the abstract types that some parts mention
abbrev pub part_mentions : List Portion → List (Bytes × Bytes)
part_mentions ps = flat_map mentions (part_types ps)
