-- What code writes stays in its home's text as a packed value takes other numbers, where each of its homes passes under its new number what it passed.
use Rattle.std.proofs.Common.{◌≡◌, ℕ, Bool, true, List, [], ◌∷◌, ◌++◌, map}
use Rattle.std.specs.Prelude.{Contains}
use Rattle.ac_types.specs.Types.{Bytes, Typ, mentions}
use Rattle.ac_terms.specs.Terms.{Home, Main, In, Pattern, PVar, PTuple, PCons, PPresent, PExnOf, Patterns, no_patterns, pattern', Expr, ExnOf, Tuple, Present, Cons, Lam, Rec, App, Let, If, Seq, Match, Try, Raise, Prim, Marshal, Unmarshal, Val, Evaluated, Bracket, Exprs, no_exprs, expr, Arms, no_arms, arm, PValue, KTuple, KList, KPresent, KFun, PValues, no_pvalues, pvalue}
use Rattle.ac_terms.specs.Parts.{Portion, OfType, OfRef, OfHome, Captured, pattern_types, part_homes, term_parts, all_term_parts, arm_parts, value_parts, all_value_parts}
use Rattle.ac_terms.specs.Renumbered.{home_by, renumbered, all_renumbered, arms_renumbered, value_renumbered, values_renumbered}
use Rattle.ac_terms.proofs.AllLaws.{all_implies}
use Rattle.ac_rules.proofs.ListLaws.{head_in, tail_in}
use Rattle.ac_colours.proofs.Owning.{Writes, PatternOwned, PatternsOwned}
use Rattle.ac_colours.proofs.OwnPacked.{PackedOwned, AllPackedOwned, TermOwned, TermsOwned, CasesOwned}

module _ (q r : Home → Bytes × Bytes → Bool) (g : ℕ → ℕ) where
  -- a home passes under its new number what it passed
  abbrev pub Passes : Home → Type 0
  Passes c = (p : Bytes × Bytes) → q c p ≡ true → r (home_by g c) p ≡ true

  abbrev HomesPass : List Portion → Type 0
  HomesPass [] = Unit {0}
  HomesPass (OfType T ∷ ps) = HomesPass ps
  HomesPass (OfRef j x ∷ ps) = HomesPass ps
  HomesPass (OfHome Main ∷ ps) = HomesPass ps
  HomesPass (OfHome (In k) ∷ ps) = Passes (In k) × HomesPass ps
  HomesPass (Captured ∷ ps) = HomesPass ps

  pub homes_pass : (ps : List Portion) → ((i : ℕ) → Contains (part_homes ps) i → Passes (In i)) → HomesPass ps
  homes_pass [] h = tt
  homes_pass (OfType T ∷ ps) h = homes_pass ps h
  homes_pass (OfRef j x ∷ ps) h = homes_pass ps h
  homes_pass (OfHome Main ∷ ps) h = homes_pass ps h
  homes_pass (OfHome (In k) ∷ ps) h = (h k (head_in k (part_homes ps)), homes_pass ps (λ i c. h i (tail_in k i (part_homes ps) c)))
  homes_pass (Captured ∷ ps) h = homes_pass ps h

  front : (ps qs : List Portion) → HomesPass (ps ++ qs) → HomesPass ps
  front [] qs h = tt
  front (OfType T ∷ ps) qs h = front ps qs h
  front (OfRef j x ∷ ps) qs h = front ps qs h
  front (OfHome Main ∷ ps) qs h = front ps qs h
  front (OfHome (In k) ∷ ps) qs h = (h.0, front ps qs h.1)
  front (Captured ∷ ps) qs h = front ps qs h

  back : (ps qs : List Portion) → HomesPass (ps ++ qs) → HomesPass qs
  back [] qs h = h
  back (OfType T ∷ ps) qs h = back ps qs h
  back (OfRef j x ∷ ps) qs h = back ps qs h
  back (OfHome Main ∷ ps) qs h = back ps qs h
  back (OfHome (In k) ∷ ps) qs h = back ps qs h.1
  back (Captured ∷ ps) qs h = back ps qs h

  module _ (c : Home) (f : Passes c) where
    abbrev d : Home
    d = home_by g c

    writes_on : (T : Typ) → Writes q c T → Writes r d T
    writes_on T h = all_implies (q c) (r d) f (mentions T) h

    mutual
      pattern_on : (p : Pattern) → PatternOwned q c p → PatternOwned r d p
      pattern_on (PVar T) h = writes_on T h
      pattern_on (PTuple ps) h = patterns_on ps h
      pattern_on (PCons p s) h = (pattern_on p h.0, pattern_on s h.1)
      pattern_on (PPresent p) h = pattern_on p h
      pattern_on (PExnOf k p) h = pattern_on p h
      pattern_on _ h = tt

      patterns_on : (ps : Patterns) → PatternsOwned q c ps → PatternsOwned r d ps
      patterns_on no_patterns h = tt
      patterns_on (pattern' p ps) h = (pattern_on p h.0, patterns_on ps h.1)

  module _ (main : Passes Main) where
    mutual
      pub value_on : (w : PValue) → HomesPass (value_parts w) → PackedOwned q w → PackedOwned r (value_renumbered g w)
      value_on (KTuple vs) h o = values_on vs h o
      value_on (KList vs) h o = values_on vs h o
      value_on (KPresent v) h o = value_on v h o
      value_on (KFun Main l) h o = term_on l Main main h o
      value_on (KFun (In i) l) h o = term_on l (In i) h.0 h.1 o
      value_on _ h o = tt

      values_on : (vs : PValues) → HomesPass (all_value_parts vs) → AllPackedOwned q vs → AllPackedOwned r (values_renumbered g vs)
      values_on no_pvalues h o = tt
      values_on (pvalue v vs) h o = (value_on v (front (value_parts v) (all_value_parts vs) h) o.0, values_on vs (back (value_parts v) (all_value_parts vs) h) o.1)

      term_on : (e : Expr) (c : Home) → Passes c → HomesPass (term_parts e) → TermOwned q c e → TermOwned r (home_by g c) (renumbered g e)
      term_on (ExnOf k e) c f h o = term_on e c f h o
      term_on (Tuple es) c f h o = terms_on es c f h o
      term_on (Present e) c f h o = term_on e c f h o
      term_on (Cons a b) c f h o = (term_on a c f (front (term_parts a) (term_parts b) h) o.0, term_on b c f (back (term_parts a) (term_parts b) h) o.1)
      term_on (Lam T e) c f h o = (writes_on c f T o.0, term_on e c f h o.1)
      term_on (Rec T U e) c f h o = (writes_on c f T o.0, writes_on c f U o.1, term_on e c f h o.2)
      term_on (App a b) c f h o = (term_on a c f (front (term_parts a) (term_parts b) h) o.0, term_on b c f (back (term_parts a) (term_parts b) h) o.1)
      term_on (Let T a b) c f h o = (writes_on c f T o.0, term_on a c f (front (term_parts a) (term_parts b) h) o.1, term_on b c f (back (term_parts a) (term_parts b) h) o.2)
      term_on (If e a b) c f h o =
          let k = front (term_parts e ++ term_parts a) (term_parts b) h in
          (term_on e c f (front (term_parts e) (term_parts a) k) o.0, term_on a c f (back (term_parts e) (term_parts a) k) o.1, term_on b c f (back (term_parts e ++ term_parts a) (term_parts b) h) o.2)
      term_on (Seq es) c f h o = terms_on es c f h o
      term_on (Match e arms) c f h o = (term_on e c f (front (term_parts e) (arm_parts arms) h) o.0, cases_on arms c f (back (term_parts e) (arm_parts arms) h) o.1)
      term_on (Try e arms) c f h o = (term_on e c f (front (term_parts e) (arm_parts arms) h) o.0, cases_on arms c f (back (term_parts e) (arm_parts arms) h) o.1)
      term_on (Raise T e) c f h o = term_on e c f h o
      term_on (Prim k es) c f h o = terms_on es c f h o
      term_on (Marshal T a b) c f h o = (writes_on c f T o.0, term_on a c f (front (term_parts a) (term_parts b) h) o.1, term_on b c f (back (term_parts a) (term_parts b) h) o.2)
      term_on (Unmarshal T e) c f h o = (writes_on c f T o.0, term_on e c f h o.1)
      term_on (Val T v) c f h o = (writes_on c f T o.0, value_on v h o.1)
      term_on (Evaluated T v) c f h o = absurd o
      term_on (Bracket b T e) c f h o = absurd o
      term_on _ c f h o = tt

      terms_on : (es : Exprs) (c : Home) → Passes c → HomesPass (all_term_parts es) → TermsOwned q c es → TermsOwned r (home_by g c) (all_renumbered g es)
      terms_on no_exprs c f h o = tt
      terms_on (expr e es) c f h o = (term_on e c f (front (term_parts e) (all_term_parts es) h) o.0, terms_on es c f (back (term_parts e) (all_term_parts es) h) o.1)

      cases_on : (arms : Arms) (c : Home) → Passes c → HomesPass (arm_parts arms) → CasesOwned q c arms → CasesOwned r (home_by g c) (arms_renumbered g arms)
      cases_on no_arms c f h o = tt
      cases_on (arm p e rest) c f h o =
          let k = front (map OfType (pattern_types p) ++ term_parts e) (arm_parts rest) h in
          (pattern_on c f p o.0, term_on e c f (back (map OfType (pattern_types p)) (term_parts e) k) o.1, cases_on rest c f (back (map OfType (pattern_types p) ++ term_parts e) (arm_parts rest) h) o.2)
