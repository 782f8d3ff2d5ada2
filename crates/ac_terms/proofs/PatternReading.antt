-- The reading of patterns loses nothing: a pattern is found again from what it is read as.
use Rattle.std.proofs.Common.{◌≡◌, refl, sym, ap, ◌∙◌, subst, List, [], ◌∷◌, map}
use mathlib.Core.Path.{ap₂}
use Rattle.ac_types.proofs.NumberLaws.{bare_back, bare_again, texted_back, texted_again}
use Rattle.ac_types.proofs.TypeReading.{back, typ_back}
use Rattle.ac_terms.specs.Terms.{Pattern, PWild, PVar, PInt, PBool, PStr, PUnit, PTuple, PNil, PCons, PAbsent, PPresent, PExn, PExnOf, Patterns, no_patterns, pattern', patterns}
use Rattle.ac_terms.specs.Read.{pattern_of, pattern_layer}
use Rattle.ac_terms.specs.declared.pat.Pat.{Pat, ind-Pat, roll-Pat, map-Pat, fold-roll-Pat}
use Rattle.ac_terms.specs.declared.pat.Pat.TheOpen.{Pat-F, Wild, Var, Int, Bool, Str, Unit, Tuple, Nil, Cons, Absent, Present, Exn, ExnOf}

-- the pattern that is read as this one
abbrev mutual
  pub find_pattern : Pattern → Pat
  find_pattern PWild = roll-Pat Wild
  find_pattern (PVar T) = roll-Pat (Var (back T))
  find_pattern (PInt n) = roll-Pat (Int n)
  find_pattern (PBool b) = roll-Pat (Bool b)
  find_pattern (PStr s) = roll-Pat (Str (record { 0 = s }))
  find_pattern PUnit = roll-Pat Unit
  find_pattern (PTuple ps) = roll-Pat (Tuple (find_patterns ps))
  find_pattern PNil = roll-Pat Nil
  find_pattern (PCons p q) = roll-Pat (Cons (find_pattern p) (find_pattern q))
  find_pattern PAbsent = roll-Pat Absent
  find_pattern (PPresent p) = roll-Pat (Present (find_pattern p))
  find_pattern (PExn k) = roll-Pat (Exn (bare_back k))
  find_pattern (PExnOf k p) = roll-Pat (ExnOf (texted_back k) (find_pattern p))

  pub find_patterns : Patterns → List Pat
  find_patterns no_patterns = []
  find_patterns (pattern' p ps) = find_pattern p ∷ find_patterns ps

-- a pattern with the fact of it
abbrev Shown : Type 0
Shown = (p : Pat) × (find_pattern (pattern_of p) ≡ p)

of_list : (es : List Shown) → find_patterns (patterns (map pattern_of (map (λ (e : Shown). e.0) es))) ≡ map (λ (e : Shown). e.0) es
of_list [] = refl
of_list (e ∷ es) = ap₂ (λ x xs. x ∷ xs) e.1 (of_list es)

of_layer : (y : Pat-F Shown) → find_pattern (pattern_layer (map-Pat Pat Pattern pattern_of (map-Pat Shown Pat (λ e. e.0) y))) ≡ roll-Pat (map-Pat Shown Pat (λ e. e.0) y)
of_layer Wild = refl
of_layer (Var T) = ap (λ t. roll-Pat (Var t)) (typ_back T)
of_layer (Int n) = refl
of_layer (Bool b) = refl
of_layer (Str s) = refl
of_layer Unit = refl
of_layer (Tuple es) = ap (λ ps. roll-Pat (Tuple ps)) (of_list es)
of_layer Nil = refl
of_layer (Cons a b) = ap₂ (λ p q. roll-Pat (Cons p q)) a.1 b.1
of_layer Absent = refl
of_layer (Present e) = ap (λ p. roll-Pat (Present p)) e.1
of_layer (Exn x) = ap (λ y. roll-Pat (Exn y)) (bare_again x)
of_layer (ExnOf x e) = ap₂ (λ y p. roll-Pat (ExnOf y p)) (texted_again x) e.1

pub pattern_back : (p : Pat) → find_pattern (pattern_of p) ≡ p
unfolding pattern_of
pattern_back = ind-Pat (λ p. find_pattern (pattern_of p) ≡ p) (λ x y is.
    ap find_pattern (fold-roll-Pat Pattern pattern_layer x) ∙
    subst (λ (z : Pat-F Pat). find_pattern (pattern_layer (map-Pat Pat Pattern pattern_of z)) ≡ roll-Pat z) is (of_layer y))

-- two patterns that are read as one are equal
pub pattern_of-injective : (p q : Pat) → pattern_of p ≡ pattern_of q → p ≡ q
pattern_of-injective p q e = sym (pattern_back p) ∙ ap find_pattern e ∙ pattern_back q
