-- Values written for variables, and the values that a pattern takes apart, keep types by the rules.
use Rattle.std.proofs.Common.{◌≡◌, refl, sym, ap, ap₂, ◌∙◌, subst, ℕ, zero, suc, ◌+◌, Bool, true, false, List, [], ◌∷◌, ◌++◌, length, Option, Some, None, arith, append_assoc, length-append}
use Rattle.std.specs.Prelude.{slice_get, option_and_then, nat_eq}
use Rattle.ac_types.specs.Partial.{given, agree, has}
use Rattle.ac_types.proofs.FirstLaws.{none≢some, some_eq, given_some}
use Rattle.ac_types.proofs.Same.{same_refl}
use Rattle.ac_types.specs.Types.{Typ, TInt, TBool, TStr, TUnit, TExn, TTuple, TList, TOpt, TFun, Typs, no_types, typ, same, is_small}
use Rattle.ac_terms.specs.Terms.{Home, Pattern, PWild, PVar, PInt, PBool, PStr, PUnit, PTuple, PNil, PCons, PAbsent, PPresent, PExn, PExnOf, Patterns, no_patterns, pattern', Expr, Int, Boolean, Str, Unit', Exn, ExnOf, Tuple, Nil, Empty, Present, Cons, Var, Own, Ref, Lam, Rec, App, Let, If, Seq, Match, Try, Raise, Prim, Marshal, Unmarshal, Val, Evaluated, Bracket, Exprs, no_exprs, expr, Arms, no_arms, arm, Value, VInt, VBool, VStr, VUnit, VExn, VTuple, VNil, VCons, VAbsent, VPresent, Values, no_values, value}
use Rattle.ac_terms.specs.Defs.{Environment}
use Rattle.ac_types.specs.Exceptions.{has_text}
use Rattle.ac_terms.specs.PrimitiveTypes.{is_exception, primitive_type}
use Rattle.ac_rules.specs.Views.{Coloured}
use Rattle.ac_rules.specs.Typing.{Scope, type_of, types_of, arm_types, variables, variables_of_all, kept_in, one_of, a_list, an_option, last_of}
use Rattle.ac_rules.proofs.Rules.{map_some, then_some, has_some, both_some, also_some, joined_some, kept_some}
use Rattle.ac_rules.proofs.GrowthTyping.{More, map_more, then_more, kept_more, given_more, has_more, agree_more, both_more, also_more, applied_more, and_more}
use Rattle.ac_meaning.specs.Substitution.{Written, Slot, Free, Bound, up, slot_in, slot, from_slot, binders, all_binders, inst, inst_all, inst_arms}
use Rattle.ac_meaning.specs.Matching.{fit, fit_all}
use Rattle.ac_meaning.proofs.FromTypes.{a_list_is, an_option_is}
use Rattle.ac_meaning.proofs.WithinSources.{kept_small}
use Rattle.ac_colours.proofs.SmallViews.{keep}
use Rattle.ac_colours.proofs.TypedShapes.{type_in, types_in, seen_in, value_small}

module _ (E : Environment) where
  -- a value of a type that a home sees stands in a term at that type
  pub standing : (c : Home) (S : Scope) (A T : Typ) (v : Value) → S.home ≡ c → seen_in E c A ≡ Some T → type_in E c v ≡ Some T → type_of Coloured false E S (Evaluated A v) ≡ Some T
  standing c S A T v e h k = subst (λ d. given (agree (type_in E d v) (seen_in E d A)) (kept_in Coloured (seen_in E d A)) ≡ Some T) (sym e) there
    where
      there : given (agree (type_in E c v) (seen_in E c A)) (kept_in Coloured (seen_in E c A)) ≡ Some T
      there =
          ap₂ (λ a b. given (agree a b) (kept_in Coloured b)) k h ∙ ap (λ b. given b (kept_in Coloured (Some T))) (same_refl T) ∙ keep T (value_small E v c T k)

  module _ (S : Scope) where
    abbrev at : List Typ → Scope
    at G = record S { vars = G }

    abbrev of : List Typ → Expr → Option Typ
    of G t = type_of Coloured false E (at G) t

    abbrev IsWritten : Typ → Value → Typ → Type 0
    IsWritten A v T = (seen_in E S.home A ≡ Some T) × (type_in E S.home v ≡ Some T)

    -- the values that are written are of the types of their variables
    abbrev pub AreWritten : Written → List Typ → Type 0
    AreWritten [] [] = Unit {0}
    AreWritten [] (A ∷ G) = ⊥
    AreWritten (w ∷ ws) [] = ⊥
    AreWritten (w ∷ ws) (A ∷ G) = IsWritten w.0 w.1 A × AreWritten ws G

    -- a pattern gives as many types as it binds variables
    mutual
      pub variables_length : (p : Pattern) (A : Typ) (Us : List Typ) → variables Coloured false E S.home p A ≡ Some Us → length Us ≡ binders p
      variables_length PWild A Us h = ap length (sym (some_eq h))
      variables_length (PVar U) A Us h = ap length (sym (some_eq (given_some _ (Some (A ∷ [])) h).1))
      variables_length (PInt n) A Us h = ap length (sym (some_eq (given_some (same TInt A) (Some []) h).1))
      variables_length (PBool b) A Us h = ap length (sym (some_eq (given_some (same TBool A) (Some []) h).1))
      variables_length (PStr s) A Us h = ap length (sym (some_eq (given_some (same TStr A) (Some []) h).1))
      variables_length PUnit A Us h = ap length (sym (some_eq (given_some (same TUnit A) (Some []) h).1))
      variables_length (PTuple ps) (TTuple As) Us h = all_variables_length ps As Us h
      variables_length PNil (TList B) Us h = ap length (sym (some_eq h))
      variables_length (PCons p q) (TList B) Us h =
          let j = joined_some _ _ Us h in
          let l = variables_length p B j.0 j.2 in
          let m = variables_length q (TList B) j.1 j.3 in
          ap length j.4 ∙ length-append j.1 j.0 ∙ omega (arith, l, m)
      variables_length PAbsent (TOpt B) Us h = ap length (sym (some_eq h))
      variables_length (PPresent p) (TOpt B) Us h = variables_length p B Us h
      variables_length (PExn k) TExn Us h = ap length (sym (some_eq (given_some (is_exception k None) (Some []) h).1))
      variables_length (PExnOf k p) TExn Us h = variables_length p TStr Us (given_some (has_text k) _ h).1
      variables_length _ _ Us h = absurd (none≢some h)

      all_variables_length : (ps : Patterns) (As : Typs) (Us : List Typ) → variables_of_all Coloured false E S.home ps As ≡ Some Us → length Us ≡ all_binders ps
      all_variables_length no_patterns no_types Us h = ap length (sym (some_eq h))
      all_variables_length (pattern' p ps) (typ A As) Us h =
          let j = joined_some _ _ Us h in
          let l = variables_length p A j.0 j.2 in
          let m = all_variables_length ps As j.1 j.3 in
          ap length j.4 ∙ length-append j.1 j.0 ∙ omega (arith, l, m)
      all_variables_length _ _ Us h = absurd (none≢some h)

    -- what comes in the place of a variable
    abbrev IsSlot : List Typ → Slot Value → Typ → Type 0
    IsSlot D (Free i) T = slice_get D i ≡ Some T
    IsSlot D (Bound A v) T = IsWritten A v T

    up_slot : (A : Typ) (D : List Typ) (s : Slot Value) (T : Typ) → IsSlot D s T → IsSlot (A ∷ D) (up s) T
    up_slot A D (Free i) T h = h
    up_slot A D (Bound B v) T h = h

    slot_in_is : (us : Written) (G : List Typ) (i : ℕ) (T : Typ) → AreWritten us G → slice_get G i ≡ Some T → IsSlot [] (slot_in us i) T
    slot_in_is [] [] i T h e = absurd (none≢some e)
    slot_in_is [] (A ∷ G) i T h e = absurd h
    slot_in_is (u ∷ us) [] i T h e = absurd h
    slot_in_is (u ∷ us) (A ∷ G) zero T h e = subst (IsWritten u.0 u.1) (some_eq e) h.0
    slot_in_is (u ∷ us) (A ∷ G) (suc i) T h e = slot_in_is us G i T h.1 e

    slot_is : (D : List Typ) (d : ℕ) (us : Written) (G : List Typ) (i : ℕ) (T : Typ) → d ≡ length D → AreWritten us G → slice_get (D ++ G) i ≡ Some T → IsSlot D (slot d us i) T
    slot_is [] zero us G i T n h e = slot_in_is us G i T h e
    slot_is [] (suc d) us G i T n h e = absurd (omega (arith, n))
    slot_is (A ∷ D) zero us G i T n h e = absurd (omega (arith, n))
    slot_is (A ∷ D) (suc d) us G zero T n h e = e
    slot_is (A ∷ D) (suc d) us G (suc i) T n h e = up_slot A D (slot d us i) T (slot_is D d us G i T (omega (arith, n)) h e)

    from_slot_is : (D : List Typ) (s : Slot Value) (T : Typ) → IsSlot D s T → is_small T ≡ true → of D (from_slot s) ≡ Some T
    from_slot_is D (Free i) T h k = ap (kept_in Coloured) h ∙ keep T k
    from_slot_is D (Bound A v) T h k = standing S.home (at D) A T v refl h.0 h.1

    -- writing values keeps types
    mutual
      pub inst_more : (t : Expr) (D G : List Typ) (us : Written) (d : ℕ) → d ≡ length D → AreWritten us G → More (of (D ++ G) t) (of D (inst d us t))
      inst_more (Int k) D G us d n w x h = h
      inst_more (Boolean k) D G us d n w x h = h
      inst_more (Str k) D G us d n w x h = h
      inst_more Unit' D G us d n w x h = h
      inst_more (Exn k) D G us d n w x h = h
      inst_more (ExnOf k e) D G us d n w x h = given_more _ _ (Some TExn) (Some TExn) (and_more (has_text k) _ (has_text k) _ (λ q. q) (λ p. has_more _ _ TStr (inst_more e D G us d n w))) (λ y q. q) x h
      inst_more (Tuple es) D G us d n w x h = kept_more Coloured _ _ (map_more TTuple _ _ (all_inst_more es D G us d n w)) x h
      inst_more (Nil T) D G us d n w x h = h
      inst_more (Empty T) D G us d n w x h = h
      inst_more (Present e) D G us d n w x h = kept_more Coloured _ _ (map_more TOpt _ _ (inst_more e D G us d n w)) x h
      inst_more (Cons a b) D G us d n w x h = both_more _ _ _ _ (map_more TList _ _ (inst_more a D G us d n w)) (inst_more b D G us d n w) x h
      inst_more (Var i) D G us d n w x h =
          let g = kept_some Coloured (slice_get (D ++ G) i) x h in
          from_slot_is D (slot d us i) x (slot_is D d us G i x n w g) (kept_small (slice_get (D ++ G) i) x h)
      inst_more (Own f) D G us d n w x h = h
      inst_more (Ref j y) D G us d n w x h = h
      inst_more (Lam T e) D G us d n w x h = then_more _ _ (seen_in E S.home T) (seen_in E S.home T) (λ y q. q) (λ A q. kept_more Coloured _ _ (map_more (TFun A) _ _ (inst_more e (A ∷ D) G us (suc d) (ap suc n) w))) x h
      inst_more (Rec T U e) D G us d n w x h =
          then_more _ _ (seen_in E S.home T) (seen_in E S.home T) (λ y q. q)
          (λ A q. then_more _ _ (seen_in E S.home U) (seen_in E S.home U) (λ y r. r)
          (λ B r. kept_more Coloured _ _ (given_more _ _ (Some (TFun A B)) (Some (TFun A B)) (has_more _ _ B (inst_more e (A ∷ TFun A B ∷ D) G us (suc (suc d)) (ap (λ k. suc (suc k)) n) w)) (λ y k. k)))) x h
      inst_more (App f a) D G us d n w x h = applied_more _ _ _ _ (inst_more f D G us d n w) (inst_more a D G us d n w) x h
      inst_more (Let T e b) D G us d n w x h =
          then_more _ _ (seen_in E S.home T) (seen_in E S.home T) (λ y q. q) (λ A q. given_more _ _ _ _ (has_more _ _ A (inst_more e D G us d n w)) (inst_more b (A ∷ D) G us (suc d) (ap suc n) w)) x h
      inst_more (If c a b) D G us d n w x h = given_more _ _ _ _ (has_more _ _ TBool (inst_more c D G us d n w)) (both_more _ _ _ _ (inst_more a D G us d n w) (inst_more b D G us d n w)) x h
      inst_more (Seq es) D G us d n w x h = then_more last_of last_of _ _ (all_inst_more es D G us d n w) (λ Ts q y k. k) x h
      inst_more (Match e arms) D G us d n w x h = then_more _ _ _ _ (inst_more e D G us d n w) (λ T q. then_more one_of one_of _ _ (arms_inst_more arms T D G us d n w) (λ Ts r y k. k)) x h
      inst_more (Try e arms) D G us d n w x h = both_more _ _ _ _ (inst_more e D G us d n w) (then_more one_of one_of _ _ (arms_inst_more arms TExn D G us d n w) (λ Ts q y k. k)) x h
      inst_more (Raise T e) D G us d n w x h = given_more _ _ _ _ (has_more _ _ TExn (inst_more e D G us d n w)) (λ y q. q) x h
      inst_more (Prim k es) D G us d n w x h = then_more (primitive_type k) (primitive_type k) _ _ (all_inst_more es D G us d n w) (λ Ts q y r. r) x h
      inst_more (Marshal T m e) D G us d n w x h =
          given_more _ _ (Some TStr) (Some TStr) (and_more _ _ _ _ (has_more _ _ TStr (inst_more m D G us d n w)) (λ p. agree_more _ _ _ _ (inst_more e D G us d n w) (λ y q. q))) (λ y q. q) x h
      inst_more (Unmarshal T e) D G us d n w x h = given_more _ _ _ _ (has_more _ _ TStr (inst_more e D G us d n w)) (λ y q. q) x h
      inst_more (Val T v) D G us d n w x h = h
      inst_more (Evaluated T v) D G us d n w x h = h
      inst_more (Bracket c T e) D G us d n w x h = h

      all_inst_more : (es : Exprs) (D G : List Typ) (us : Written) (d : ℕ) → d ≡ length D → AreWritten us G → More (types_of Coloured false E (at (D ++ G)) es) (types_of Coloured false E (at D) (inst_all d us es))
      all_inst_more no_exprs D G us d n w x h = h
      all_inst_more (expr e es) D G us d n w x h = also_more _ _ _ _ (inst_more e D G us d n w) (all_inst_more es D G us d n w) x h

      arms_inst_more : (arms : Arms) (A : Typ) (D G : List Typ) (us : Written) (d : ℕ) → d ≡ length D → AreWritten us G → More (arm_types Coloured false E (at (D ++ G)) A arms) (arm_types Coloured false E (at D) A (inst_arms d us arms))
      arms_inst_more no_arms A D G us d n w x h = h
      arms_inst_more (arm p e rest) A D G us d n w x h =
          also_more _ _ _ _
          (then_more _ _ (variables Coloured false E S.home p A) (variables Coloured false E S.home p A) (λ y q. q)
          (λ Us q.
          let l = variables_length p A Us q in
          subst (λ X. More (of X e) (of (Us ++ D) (inst (binders p + d) us e))) (append_assoc Us D G) (inst_more e (Us ++ D) G us (binders p + d) (sym (length-append Us D ∙ omega (arith, l, n))) w)))
          (arms_inst_more rest A D G us d n w) x h

    -- a pattern that fits gives its variables values of their types
    then_fits : (f : Written → Option Written) (o : Option Written) (us : Written) → option_and_then f o ≡ Some us → (vs : Written) × (o ≡ Some vs) × (f vs ≡ Some us)
    then_fits f None us h = absurd (none≢some h)
    then_fits f (Some vs) us h = (vs, refl, h)

    nothing_more : (ws us : Written) (G Us : List Typ) → [] ≡ Us → ws ≡ us → AreWritten ws G → AreWritten us (Us ++ G)
    nothing_more ws us G Us q e h = subst (λ X. AreWritten us (X ++ G)) q (subst (λ x. AreWritten x G) e h)

    -- of a test under which nothing is bound
    under : (b c : Bool) (ws us : Written) (G Us : List Typ) → given b (Some ws) ≡ Some us → given c (Some []) ≡ Some Us → AreWritten ws G → AreWritten us (Us ++ G)
    under b c ws us G Us e k h = nothing_more ws us G Us (some_eq (given_some c (Some []) k).1) (some_eq (given_some b (Some ws) e).1) h

    mutual
      pub fit_written : (p : Pattern) (v : Value) (ws us : Written) (A : Typ) (G Us : List Typ) → fit p v ws ≡ Some us → type_in E S.home v ≡ Some A → variables Coloured false E S.home p A ≡ Some Us → AreWritten ws G → AreWritten us (Us ++ G)
      fit_written PWild v ws us A G Us e k h w = nothing_more ws us G Us (some_eq h) (some_eq e) w
      fit_written (PVar U) v ws us A G Us e k h w =
          let p = given_some (has (seen_in E S.home U) A) (Some (A ∷ [])) h in
          let one : AreWritten ((U, v) ∷ ws) (A ∷ G) = ((has_some (seen_in E S.home U) A p.0, k), w) in
          subst (λ X. AreWritten us (X ++ G)) (some_eq p.1) (subst (λ x. AreWritten x (A ∷ G)) (some_eq e) one)
      fit_written (PInt n) (VInt x) ws us A G Us e k h w = under _ (same TInt A) ws us G Us e h w
      fit_written (PBool b) (VBool x) ws us A G Us e k h w = under _ (same TBool A) ws us G Us e h w
      fit_written (PStr s) (VStr x) ws us A G Us e k h w = under _ (same TStr A) ws us G Us e h w
      fit_written PUnit VUnit ws us A G Us e k h w = under true (same TUnit A) ws us G Us e h w
      fit_written (PTuple ps) (VTuple vs) ws us A G Us e k h w =
          let q = map_some TTuple (types_in E S.home vs) A (kept_some Coloured _ A k) in
          all_fit_written ps vs ws us q.0 G Us e q.1 (ap (λ X. variables Coloured false E S.home (PTuple ps) X) q.2 ∙ h) w
      fit_written PNil (VNil B) ws us A G Us e k h w =
          let q = then_some a_list (seen_in E S.home B) A (kept_some Coloured _ A k) in
          let l = a_list_is q.0 A q.2 in
          nothing_more ws us G Us (some_eq (ap (λ X. variables Coloured false E S.home PNil X) (sym l.1) ∙ h)) (some_eq e) w
      fit_written (PCons p q) (VCons x y) ws us A G Us e k h w =
          let b = both_some _ (type_in E S.home y) A k in
          let m = map_some TList (type_in E S.home x) A b.0 in
          let j = joined_some _ _ Us (ap (λ X. variables Coloured false E S.home (PCons p q) X) m.2 ∙ h) in
          let f = then_fits (fit q y) (fit p x ws) us e in
          subst (λ X. AreWritten us X) (sym (ap (λ X. X ++ G) j.4 ∙ append_assoc j.1 j.0 G))
          (fit_written q y f.0 us (TList m.0) (j.0 ++ G) j.1 f.2 (b.1 ∙ ap Some (sym m.2)) j.3 (fit_written p x ws f.0 m.0 G j.0 f.1 m.1 j.2 w))
      fit_written PAbsent (VAbsent B) ws us A G Us e k h w =
          let q = then_some an_option (seen_in E S.home B) A (kept_some Coloured _ A k) in
          let l = an_option_is q.0 A q.2 in
          nothing_more ws us G Us (some_eq (ap (λ X. variables Coloured false E S.home PAbsent X) (sym l.1) ∙ h)) (some_eq e) w
      fit_written (PPresent p) (VPresent x) ws us A G Us e k h w =
          let m = map_some TOpt (type_in E S.home x) A (kept_some Coloured _ A k) in
          fit_written p x ws us m.0 G Us e m.1 (ap (λ X. variables Coloured false E S.home (PPresent p) X) m.2 ∙ h) w
      fit_written (PExn n) (VExn j None) ws us A G Us e k h w =
          let t = some_eq (given_some (is_exception j None) (Some TExn) k).1 in
          under (nat_eq n j) (is_exception n None) ws us G Us e (ap (λ X. variables Coloured false E S.home (PExn n) X) t ∙ h) w
      fit_written (PExnOf n p) (VExn j (Some s)) ws us A G Us e k h w =
          let t = some_eq (given_some (is_exception j (Some s)) (Some TExn) k).1 in
          fit_written p (VStr s) ws us TStr G Us (given_some (nat_eq n j) (fit p (VStr s) ws) e).1 refl (given_some (has_text n) _ (ap (λ X. variables Coloured false E S.home (PExnOf n p) X) t ∙ h)).1 w
      fit_written _ _ ws us A G Us e k h w = absurd (none≢some e)

      all_fit_written : (ps : Patterns) (vs : Values) (ws us : Written) (As : Typs) (G Us : List Typ) → fit_all ps vs ws ≡ Some us → types_in E S.home vs ≡ Some As → variables_of_all Coloured false E S.home ps As ≡ Some Us → AreWritten ws G → AreWritten us (Us ++ G)
      all_fit_written no_patterns no_values ws us As G Us e k h w = nothing_more ws us G Us (some_eq (ap (variables_of_all Coloured false E S.home no_patterns) (some_eq k) ∙ h)) (some_eq e) w
      all_fit_written (pattern' p ps) (value v vs) ws us As G Us e k h w =
          let a = also_some (type_in E S.home v) (types_in E S.home vs) As k in
          let j = joined_some _ _ Us (ap (variables_of_all Coloured false E S.home (pattern' p ps)) a.4 ∙ h) in
          let f = then_fits (fit_all ps vs) (fit p v ws) us e in
          subst (λ X. AreWritten us X) (sym (ap (λ X. X ++ G) j.4 ∙ append_assoc j.1 j.0 G))
          (all_fit_written ps vs f.0 us a.1 (j.0 ++ G) j.1 f.2 a.3 j.3 (fit_written p v ws f.0 a.0 G j.0 f.1 a.2 j.2 w))
      all_fit_written _ _ ws us As G Us e k h w = absurd (none≢some e)
