-- Other numbers, and other definitions in which names stand for the same: what a packed value says stays.
use Rattle.std.proofs.Common.{◌≡◌, refl, sym, ap, ap₂, ◌∙◌, subst, ℕ, zero, suc, true, length}
use Rattle.std.specs.List.{list_all}
use mathlib.Core.Bool.{true≢false}
use Rattle.ac_types.proofs.Same.{both_true}
use Rattle.ac_types.specs.Types.{Typ, TInt, TBool, TStr, TUnit, TExn, TTuple, TList, TOpt, TFun, TAbs, TMine, Typs, no_types, typ, has_function, mentions, mentions_of_all}
use Rattle.ac_terms.specs.Terms.{Expr, ExnOf, Tuple, Present, Cons, Lam, Rec, App, Let, If, Seq, Match, Try, Raise, Prim, Marshal, Unmarshal, Val, Evaluated, Bracket, Exprs, no_exprs, expr, Arms, no_arms, arm, PValue, KInt, KBool, KStr, KUnit, KExn, KTuple, KList, KAbsent, KPresent, KFun, PValues, no_pvalues, pvalue}
use Rattle.ac_terms.specs.Defs.{Environment}
use Rattle.ac_rules.specs.Views.{bare, opened, unsealed, head, rounds, is_known, are_known}
use Rattle.ac_rules.specs.Plain.{all_travel}
use Rattle.ac_rules.specs.Coherent.{IsCoherent}
use Rattle.ac_terms.proofs.AllLaws.{all_left, all_right}
use Rattle.ac_meaning.specs.Rebuilding.{parts_of, item_of}
use Rattle.ac_rules.proofs.KnownTypes.{rounds_still, opened_known, head_known}
use Rattle.ac_colours.proofs.Telling.{Flat}
use Rattle.ac_colours.proofs.Says.{OfBirth, SaidAt, Said, AllSaid, EachSaid, TermSaid, TermsSaid, ArmsSaid, whole}
use Rattle.ac_colours.proofs.Ground.{Before, opened_before}
use Rattle.ac_terms.specs.Renumbered.{renumbered, all_renumbered, arms_renumbered, value_renumbered, values_renumbered}
use Rattle.ac_colours.proofs.KnownBoth.{Agreeing, bare_both, head_both}
use Rattle.ac_colours.proofs.Brings.{Sits, AllSit, EachSits, TermSits, TermsSit, ArmsSit, IsFlat, AreFlat, flat_data, bare_opened}

-- first-order data has no number
mutual
  pub flat_renumbered : (w : PValue) (g : ℕ → ℕ) (X : Environment) → IsFlat X w → value_renumbered g w ≡ w
  flat_renumbered (KTuple vs) g X f = ap KTuple (all_flat_renumbered vs g X f)
  flat_renumbered (KList vs) g X f = ap KList (all_flat_renumbered vs g X f)
  flat_renumbered (KPresent v) g X f = ap KPresent (flat_renumbered v g X f)
  flat_renumbered (KFun h l) g X f = absurd f
  flat_renumbered _ g X f = refl

  all_flat_renumbered : (vs : PValues) (g : ℕ → ℕ) (X : Environment) → AreFlat X vs → values_renumbered g vs ≡ vs
  all_flat_renumbered no_pvalues g X f = refl
  all_flat_renumbered (pvalue v vs) g X f = ap₂ pvalue (flat_renumbered v g X f.0) (all_flat_renumbered vs g X f.1)

module _ (E F : Environment) (agreeing : Agreeing E F) (K : OfBirth) (g : ℕ → ℕ) where
  abbrev coherent : IsCoherent E
  coherent = agreeing.first

  at_carried : (k i : ℕ) (T : Typ) (w x : PValue) (go to : Typ → Type 0) → Before E coherent k T → are_known E T ≡ true → are_known F T ≡ true → (Flat E coherent T → x ≡ w) → (go (rounds k (unsealed E) T) → to (rounds i (unsealed F) T)) → SaidAt E K T k w go → SaidAt F K T i x to
  at_carried zero i (TAbs n t) w x go to b kn kf f m s = absurd (true≢false (sym (both_true _ true b).0))
  at_carried (suc k) zero (TAbs n t) w x go to b kn kf f m s = tt
  at_carried (suc k) (suc i) (TAbs n t) w x go to b kn kf f m s =
      let here : is_known E (n, t) ≡ true = (both_true (is_known E (n, t)) true kn).0 in
      let there : is_known F (n, t) ≡ true = (both_true (is_known F (n, t)) true kf).0 in
      let R = opened E n t in
      let same : opened F n t ≡ R = sym (agreeing.opened_alike n t here there) in
      let bare_same : bare E (TAbs n t) ≡ bare F (TAbs n t) = bare_both E F agreeing (TAbs n t) kn kf in (
        λ p a. let e : x ≡ w = f (ap has_function bare_same ∙ p) in subst (K n t) (sym e) (s.0 (ap has_function bare_same ∙ p) (ap all_travel (sym e) ∙ a)),
        subst (λ X. SaidAt F K X i x to) (sym same)
            (at_carried k i R w x go to (opened_before E coherent n t k b) (opened_known E coherent n t here) (subst (λ X. are_known F X ≡ true) same (opened_known F agreeing.second n t there)) (λ p. f (ap has_function (sym (bare_opened E coherent n t here)) ∙ p))
            (λ h. subst (λ X. to (rounds i (unsealed F) X)) same (m h)) s.1),
      )
  at_carried zero i TInt w x go to b kn kf f m s = subst to (rounds_still i (unsealed F) TInt refl) (m (subst go (sym (rounds_still zero (unsealed E) TInt refl)) s))
  at_carried (suc k) i TInt w x go to b kn kf f m s = subst to (rounds_still i (unsealed F) TInt refl) (m (subst go (sym (rounds_still (suc k) (unsealed E) TInt refl)) s))
  at_carried zero i TBool w x go to b kn kf f m s = subst to (rounds_still i (unsealed F) TBool refl) (m (subst go (sym (rounds_still zero (unsealed E) TBool refl)) s))
  at_carried (suc k) i TBool w x go to b kn kf f m s = subst to (rounds_still i (unsealed F) TBool refl) (m (subst go (sym (rounds_still (suc k) (unsealed E) TBool refl)) s))
  at_carried zero i TStr w x go to b kn kf f m s = subst to (rounds_still i (unsealed F) TStr refl) (m (subst go (sym (rounds_still zero (unsealed E) TStr refl)) s))
  at_carried (suc k) i TStr w x go to b kn kf f m s = subst to (rounds_still i (unsealed F) TStr refl) (m (subst go (sym (rounds_still (suc k) (unsealed E) TStr refl)) s))
  at_carried zero i TUnit w x go to b kn kf f m s = subst to (rounds_still i (unsealed F) TUnit refl) (m (subst go (sym (rounds_still zero (unsealed E) TUnit refl)) s))
  at_carried (suc k) i TUnit w x go to b kn kf f m s = subst to (rounds_still i (unsealed F) TUnit refl) (m (subst go (sym (rounds_still (suc k) (unsealed E) TUnit refl)) s))
  at_carried zero i TExn w x go to b kn kf f m s = subst to (rounds_still i (unsealed F) TExn refl) (m (subst go (sym (rounds_still zero (unsealed E) TExn refl)) s))
  at_carried (suc k) i TExn w x go to b kn kf f m s = subst to (rounds_still i (unsealed F) TExn refl) (m (subst go (sym (rounds_still (suc k) (unsealed E) TExn refl)) s))
  at_carried zero i (TTuple Ts) w x go to b kn kf f m s = subst to (rounds_still i (unsealed F) (TTuple Ts) refl) (m (subst go (sym (rounds_still zero (unsealed E) (TTuple Ts) refl)) s))
  at_carried (suc k) i (TTuple Ts) w x go to b kn kf f m s = subst to (rounds_still i (unsealed F) (TTuple Ts) refl) (m (subst go (sym (rounds_still (suc k) (unsealed E) (TTuple Ts) refl)) s))
  at_carried zero i (TList A) w x go to b kn kf f m s = subst to (rounds_still i (unsealed F) (TList A) refl) (m (subst go (sym (rounds_still zero (unsealed E) (TList A) refl)) s))
  at_carried (suc k) i (TList A) w x go to b kn kf f m s = subst to (rounds_still i (unsealed F) (TList A) refl) (m (subst go (sym (rounds_still (suc k) (unsealed E) (TList A) refl)) s))
  at_carried zero i (TOpt A) w x go to b kn kf f m s = subst to (rounds_still i (unsealed F) (TOpt A) refl) (m (subst go (sym (rounds_still zero (unsealed E) (TOpt A) refl)) s))
  at_carried (suc k) i (TOpt A) w x go to b kn kf f m s = subst to (rounds_still i (unsealed F) (TOpt A) refl) (m (subst go (sym (rounds_still (suc k) (unsealed E) (TOpt A) refl)) s))
  at_carried zero i (TFun A B) w x go to b kn kf f m s = subst to (rounds_still i (unsealed F) (TFun A B) refl) (m (subst go (sym (rounds_still zero (unsealed E) (TFun A B) refl)) s))
  at_carried (suc k) i (TFun A B) w x go to b kn kf f m s = subst to (rounds_still i (unsealed F) (TFun A B) refl) (m (subst go (sym (rounds_still (suc k) (unsealed E) (TFun A B) refl)) s))
  at_carried zero i (TMine u) w x go to b kn kf f m s = subst to (rounds_still i (unsealed F) (TMine u) refl) (m (subst go (sym (rounds_still zero (unsealed E) (TMine u) refl)) s))
  at_carried (suc k) i (TMine u) w x go to b kn kf f m s = subst to (rounds_still i (unsealed F) (TMine u) refl) (m (subst go (sym (rounds_still (suc k) (unsealed E) (TMine u) refl)) s))

  same_parts : (Ts Us : Typs) → TTuple Ts ≡ TTuple Us → Ts ≡ Us
  same_parts Ts Us e = ap parts_of e

  known_as : (T X : Typ) → head E T ≡ X → are_known E T ≡ true → are_known E X ≡ true
  known_as T X q k = subst (λ Y. are_known E Y ≡ true) q (head_known E coherent T k)

  same_head : (T X : Typ) → head E T ≡ X → are_known E T ≡ true → are_known F T ≡ true → head F T ≡ X
  same_head T X q k kf = sym (head_both E F agreeing T k kf) ∙ q

  known_there : (T X : Typ) → head E T ≡ X → are_known E T ≡ true → are_known F T ≡ true → are_known F X ≡ true
  known_there T X q k kf = subst (λ Y. are_known F Y ≡ true) (same_head T X q k kf) (head_known F agreeing.second T kf)

  mutual
    pub said_carried : (w : PValue) (T : Typ) → are_known E T ≡ true → are_known F T ≡ true → Sits E T w → Sits F T (value_renumbered g w) → Said E K T w → Said F K T (value_renumbered g w)
    said_carried (KInt i) T k kf t u s = at_carried (length E) (length F) T (KInt i) (KInt i) (λ U. Unit {0}) (λ U. Unit {0}) (whole E K coherent T k) k kf (λ f. refl) (λ h. tt) s
    said_carried (KBool i) T k kf t u s = at_carried (length E) (length F) T (KBool i) (KBool i) (λ U. Unit {0}) (λ U. Unit {0}) (whole E K coherent T k) k kf (λ f. refl) (λ h. tt) s
    said_carried (KStr i) T k kf t u s = at_carried (length E) (length F) T (KStr i) (KStr i) (λ U. Unit {0}) (λ U. Unit {0}) (whole E K coherent T k) k kf (λ f. refl) (λ h. tt) s
    said_carried KUnit T k kf t u s = at_carried (length E) (length F) T KUnit KUnit (λ U. Unit {0}) (λ U. Unit {0}) (whole E K coherent T k) k kf (λ f. refl) (λ h. tt) s
    said_carried KAbsent T k kf t u s = at_carried (length E) (length F) T KAbsent KAbsent (λ U. Unit {0}) (λ U. Unit {0}) (whole E K coherent T k) k kf (λ f. refl) (λ h. tt) s
    said_carried (KExn i j) T k kf t u s = at_carried (length E) (length F) T (KExn i j) (KExn i j) (λ U. Unit {0}) (λ U. Unit {0}) (whole E K coherent T k) k kf (λ f. refl) (λ h. tt) s
    said_carried (KTuple vs) T k kf t u s =
        at_carried (length E) (length F) T (KTuple vs) (value_renumbered g (KTuple vs)) (λ U. AllSaid E K (parts_of U) vs) (λ U. AllSaid F K (parts_of U) (values_renumbered g vs)) (whole E K coherent T k) k kf
        (λ f. flat_renumbered (KTuple vs) g E (flat_data E coherent (KTuple vs) T k f t))
        (λ h. subst (λ U. AllSaid F K (parts_of U) (values_renumbered g vs)) (sym (same_head T (TTuple t.0) t.1 k kf)) (all_said_carried vs t.0 (known_as T (TTuple t.0) t.1 k) (known_there T (TTuple t.0) t.1 k kf) t.2 (subst (λ Ts. AllSit F Ts (values_renumbered g vs)) (same_parts u.0 t.0 (sym u.1 ∙ same_head T (TTuple t.0) t.1 k kf)) u.2) (subst (λ U. AllSaid E K (parts_of U) vs) t.1 h))) s
    said_carried (KList vs) T k kf t u s =
        at_carried (length E) (length F) T (KList vs) (value_renumbered g (KList vs)) (λ U. EachSaid E K (item_of U) vs) (λ U. EachSaid F K (item_of U) (values_renumbered g vs)) (whole E K coherent T k) k kf
        (λ f. flat_renumbered (KList vs) g E (flat_data E coherent (KList vs) T k f t))
        (λ h. subst (λ U. EachSaid F K (item_of U) (values_renumbered g vs)) (sym (same_head T (TList t.0) t.1 k kf)) (each_said_carried vs t.0 (known_as T (TList t.0) t.1 k) (known_there T (TList t.0) t.1 k kf) t.2 (subst (λ A. EachSits F A (values_renumbered g vs)) (ap item_of (sym u.1 ∙ same_head T (TList t.0) t.1 k kf)) u.2) (subst (λ U. EachSaid E K (item_of U) vs) t.1 h))) s
    said_carried (KPresent v) T k kf t u s =
        at_carried (length E) (length F) T (KPresent v) (value_renumbered g (KPresent v)) (λ U. Said E K (item_of U) v) (λ U. Said F K (item_of U) (value_renumbered g v)) (whole E K coherent T k) k kf
        (λ f. flat_renumbered (KPresent v) g E (flat_data E coherent (KPresent v) T k f t))
        (λ h. subst (λ U. Said F K (item_of U) (value_renumbered g v)) (sym (same_head T (TOpt t.0) t.1 k kf)) (said_carried v t.0 (known_as T (TOpt t.0) t.1 k) (known_there T (TOpt t.0) t.1 k kf) t.2 (subst (λ A. Sits F A (value_renumbered g v)) (ap item_of (sym u.1 ∙ same_head T (TOpt t.0) t.1 k kf)) u.2) (subst (λ U. Said E K (item_of U) v) t.1 h))) s
    said_carried (KFun d l) T k kf t u s =
        at_carried (length E) (length F) T (KFun d l) (value_renumbered g (KFun d l)) (λ U. TermSaid E K l) (λ U. TermSaid F K (renumbered g l)) (whole E K coherent T k) k kf
        (λ f. flat_renumbered (KFun d l) g E (flat_data E coherent (KFun d l) T k f t)) (λ h. term_carried l t.3 u.3 h) s

    all_said_carried : (vs : PValues) (Ts : Typs) → list_all (is_known E) (mentions_of_all Ts) ≡ true → list_all (is_known F) (mentions_of_all Ts) ≡ true → AllSit E Ts vs → AllSit F Ts (values_renumbered g vs) → AllSaid E K Ts vs → AllSaid F K Ts (values_renumbered g vs)
    all_said_carried no_pvalues no_types k kf t u s = tt
    all_said_carried (pvalue v vs) (typ T Ts) k kf t u s = (
      said_carried v T (all_left (is_known E) (mentions T) (mentions_of_all Ts) k) (all_left (is_known F) (mentions T) (mentions_of_all Ts) kf) t.0 u.0 s.0,
      all_said_carried vs Ts (all_right (is_known E) (mentions T) (mentions_of_all Ts) k) (all_right (is_known F) (mentions T) (mentions_of_all Ts) kf) t.1 u.1 s.1,
    )
    all_said_carried no_pvalues (typ T Ts) k kf t u s = absurd t
    all_said_carried (pvalue v vs) no_types k kf t u s = absurd t

    each_said_carried : (vs : PValues) (A : Typ) → are_known E A ≡ true → are_known F A ≡ true → EachSits E A vs → EachSits F A (values_renumbered g vs) → EachSaid E K A vs → EachSaid F K A (values_renumbered g vs)
    each_said_carried no_pvalues A k kf t u s = tt
    each_said_carried (pvalue v vs) A k kf t u s = (said_carried v A k kf t.0 u.0 s.0, each_said_carried vs A k kf t.1 u.1 s.1)

    term_carried : (e : Expr) → TermSits E e → TermSits F (renumbered g e) → TermSaid E K e → TermSaid F K (renumbered g e)
    term_carried (ExnOf k e) t u s = term_carried e t u s
    term_carried (Tuple es) t u s = terms_carried es t u s
    term_carried (Present e) t u s = term_carried e t u s
    term_carried (Cons a b) t u s = (term_carried a t.0 u.0 s.0, term_carried b t.1 u.1 s.1)
    term_carried (Lam T e) t u s = term_carried e t u s
    term_carried (Rec T U e) t u s = term_carried e t u s
    term_carried (App f a) t u s = (term_carried f t.0 u.0 s.0, term_carried a t.1 u.1 s.1)
    term_carried (Let T e b) t u s = (term_carried e t.0 u.0 s.0, term_carried b t.1 u.1 s.1)
    term_carried (If e a b) t u s = (term_carried e t.0 u.0 s.0, term_carried a t.1 u.1 s.1, term_carried b t.2 u.2 s.2)
    term_carried (Seq es) t u s = terms_carried es t u s
    term_carried (Match e arms) t u s = (term_carried e t.0 u.0 s.0, arms_carried arms t.1 u.1 s.1)
    term_carried (Try e arms) t u s = (term_carried e t.0 u.0 s.0, arms_carried arms t.1 u.1 s.1)
    term_carried (Raise T e) t u s = term_carried e t u s
    term_carried (Prim k es) t u s = terms_carried es t u s
    term_carried (Marshal T m e) t u s = (term_carried m t.0 u.0 s.0, term_carried e t.1 u.1 s.1)
    term_carried (Unmarshal T e) t u s = term_carried e t u s
    term_carried (Val T v) t u s = said_carried v T t.0 u.0 t.1 u.1 s
    term_carried (Evaluated T v) t u s = absurd t
    term_carried (Bracket b T e) t u s = absurd t
    term_carried _ t u s = tt

    terms_carried : (es : Exprs) → TermsSit E es → TermsSit F (all_renumbered g es) → TermsSaid E K es → TermsSaid F K (all_renumbered g es)
    terms_carried no_exprs t u s = tt
    terms_carried (expr e es) t u s = (term_carried e t.0 u.0 s.0, terms_carried es t.1 u.1 s.1)

    arms_carried : (arms : Arms) → ArmsSit E arms → ArmsSit F (arms_renumbered g arms) → ArmsSaid E K arms → ArmsSaid F K (arms_renumbered g arms)
    arms_carried no_arms t u s = tt
    arms_carried (arm p e rest) t u s = (term_carried e t.0 u.0 s.0, arms_carried rest t.1 u.1 s.1)
