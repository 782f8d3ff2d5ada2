-- What code of a home may write is known before the first entry of the home's name, and so is all that is reached from it through representations. So the home opens nothing of it.
use Rattle.std.proofs.Common.{◌≡◌, refl, sym, ap, ◌∙◌, subst, ℕ, zero, suc, ◌<◌, ◌≤◌, Bool, true, false, List, [], ◌∷◌, length, Option, Some, None, take}
use Rattle.std.specs.Prelude.{◌||◌, not, unwrap_or}
use Rattle.std.specs.List.{list_all, list_any}
use Rattle.std.specs.Option.{option_map_or}
use mathlib.Core.Bool.{true≢false}
use native.Mathlib.Omega.{arith}
use Rattle.ac_types.proofs.Same.{both_true, and_true, bytes_eq}
use Rattle.ac_types.proofs.FirstLaws.{none≢some, some_eq}
use Rattle.ac_types.specs.Types.{Bytes, same_bytes, Typ, TAbs, mentions}
use Rattle.ac_terms.specs.Terms.{Home, Main, In}
use Rattle.ac_terms.specs.Defs.{Environment, Entry, Module, Def, AModule, module_at, module_of, def_of, name_at, names, find_name, declares}
use Rattle.ac_terms.specs.Parts.{part_mentions, def_parts}
use Rattle.ac_rules.specs.Views.{Coloured, view, has_name, opened, representation, is_known, are_known}
use Rattle.ac_rules.specs.Coherent.{IsCoherent}
use Rattle.ac_rules.proofs.Rules.{then_some}
use Rattle.ac_rules.proofs.EarlierLaws.{known_earlier}
use Rattle.ac_terms.proofs.AllLaws.{all_implies}
use Rattle.ac_rules.proofs.ViewLaws.{foreign_view, rep_earlier}
use Rattle.ac_rules.proofs.BareLaws.{known_has}
use Rattle.ac_terms.proofs.TestLaws.{not_where}
use Rattle.ac_rules.proofs.ListLaws.{any_taken, any_both, take_whole}
use Rattle.ac_rules.proofs.Unspoken.{shown, padded_named, same_mentions, own_least}
use Rattle.ac_colours.proofs.Owning.{Writes}
use Rattle.ac_colours.proofs.OwnText.{same_pair, speaks}

-- before which entry a home stands: the least one of its name
abbrev pub ground_of : Environment → Option Bytes → ℕ
ground_of E None = length E
ground_of E (Some n) = unwrap_or (find_name E n) (length E)

abbrev pub ground : Environment → Home → ℕ
ground E Main = length E
ground E (In i) = ground_of E (name_at E i)

module _ (E : Environment) (coherent : IsCoherent E) where
  -- a type whose names are known among the first entries
  abbrev pub Before : ℕ → Typ → Type 0
  Before l T = list_all (is_known (take l E)) (mentions T) ≡ true

  -- a module's text speaks of what is before the least entry of its name
  module _ (i : ℕ) (m : Module) (n : Bytes) (l : ℕ) (there : def_of E i ≡ Some (AModule m)) (named : name_at E i ≡ Some n) (found : find_name E n ≡ Some l) where
    pub text_before : list_all (is_known (take l E)) (part_mentions (def_parts (AModule m))) ≡ true
    text_before =
        let w = coherent.within_bounds i (AModule m) there in
        let k = own_least E coherent i m n there named l found in
        let v = coherent.within_bounds l (AModule k.0) k.1 in
        ap (list_all (is_known (take l E))) (same_mentions (shown E coherent) (λ j. padded_named (unwrap_or (name_at E j) [])) m k.0 w v k.2) ∙ coherent.mentions l (AModule k.0) k.1

  -- what is spoken is before
  pair_is : (p r : Bytes × Bytes) → same_pair p r ≡ true → p ≡ r
  pair_is (a, b) (c, d) h = let e = both_true (same_bytes a c) (same_bytes b d) h in ap (λ x. (x, b)) (bytes_eq a c e.0) ∙ ap (λ y. (c, y)) (bytes_eq b d e.1)

  spoken_known : (i : ℕ) (p : Bytes × Bytes) → is_known E p ≡ true → speaks E (In i) p ≡ true → is_known (take (ground E (In i)) E) p ≡ true
  spoken_known i p k h = by (name_at E i) refl
    where
      whole : is_known (take (length E) E) p ≡ true
      whole = ap (λ X. is_known X p) (take_whole E) ∙ k

      of : (n : Bytes) → name_at E i ≡ Some n → (o : Option ℕ) → find_name E n ≡ o → is_known (take (unwrap_or o (length E)) E) p ≡ true
      of n q None f = whole
      of n q (Some l) f = held (module_at E i) refl h
        where
          held : (o : Option Module) → module_at E i ≡ o → option_map_or (λ (m : Module). list_any (same_pair p) (part_mentions (def_parts (AModule m)))) o false ≡ true → is_known (take l E) p ≡ true
          held None e g = absurd (true≢false (sym g))
          held (Some m) e g =
              let d = then_some module_of (def_of E i) m e in
              let t : def_of E i ≡ Some (AModule m) = d.1 ∙ ap Some (is_module d.0 d.2) in
              let x = any_both (same_pair p) (is_known (take l E)) (part_mentions (def_parts (AModule m))) g (text_before i m n l t q f) in
              subst (λ y. is_known (take l E) y ≡ true) (sym (pair_is p x.0 x.1)) x.2
            where
              is_module : (d : Def) → module_of d ≡ Some m → d ≡ AModule m
              is_module (AModule k) r = ap AModule (some_eq r)
              is_module _ r = absurd (none≢some r)

      by : (o : Option Bytes) → name_at E i ≡ o → is_known (take (ground_of E o) E) p ≡ true
      by None q = whole
      by (Some n) q = of n q (find_name E n) refl

  spoken_all : (i : ℕ) (xs : List (Bytes × Bytes)) → list_all (is_known E) xs ≡ true → list_all (speaks E (In i)) xs ≡ true → list_all (is_known (take (ground E (In i)) E)) xs ≡ true
  spoken_all i [] k h = refl
  spoken_all i (x ∷ xs) k h =
      let a = both_true (is_known E x) (list_all (is_known E) xs) k in
      let b = both_true (speaks E (In i) x) (list_all (speaks E (In i)) xs) h in
      and_true {a = is_known (take (ground E (In i)) E) x} {b = list_all (is_known (take (ground E (In i)) E)) xs} (spoken_known i x a.0 b.0) (spoken_all i xs a.1 b.1)

  -- a known type that the home writes
  pub spoken_before : (c : Home) (T : Typ) → are_known E T ≡ true → Writes (speaks E) c T → Before (ground E c) T
  spoken_before Main T k h = ap (λ X. list_all (is_known X) (mentions T)) (take_whole E) ∙ k
  spoken_before (In i) T k h = spoken_all i (mentions T) k h

  -- the home opens nothing of it
  not_named : (i : ℕ) (p : Bytes × Bytes) → is_known (take (ground E (In i)) E) p ≡ true → not (has_name E (In i) p.0) ≡ true
  not_named i p h = not_where (names (name_at E i) p.0) (λ e. by (name_at E i) refl e h)
    where
      of : (n : Bytes) → (o : Option ℕ) → find_name E n ≡ o → n ≡ p.0 → is_known (take (unwrap_or o (length E)) E) p ≡ true → ⊥
      of n None f e k = let r = known_earlier E (length E) p.0 p.1 k in none≢some (sym f ∙ ap (find_name E) e ∙ r.1)
      of n (Some l) f e k =
          let r = known_earlier E l p.0 p.1 k in
          let q : l ≡ r.0 = some_eq (sym f ∙ ap (find_name E) e ∙ r.1) in
          let lt : r.0 < l = r.2 in
          omega arith

      by : (o : Option Bytes) → name_at E i ≡ o → names o p.0 ≡ true → is_known (take (ground_of E o) E) p ≡ true → ⊥
      by None q e k = true≢false (sym e)
      by (Some n) q e k = of n (find_name E n) refl (bytes_eq n p.0 e) k

  -- so the home sees the type as it is
  pub sees_as_is : (c : Home) (T : Typ) → Before (ground E c) T → view Coloured E c T ≡ T
  sees_as_is Main T h = foreign_view E Main T (all_implies (is_known (take (length E) E)) (λ p. true) (λ p q. refl) (mentions T) h)
  sees_as_is (In i) T h = foreign_view E (In i) T (all_implies (is_known (take (ground E (In i)) E)) (λ p. not (has_name E (In i) p.0)) (not_named i) (mentions T) h)

  -- what is known among the first is known among more
  any_further : (p : Entry → Bool) (j l : ℕ) (xs : List Entry) → j ≤ l → list_any p (take j xs) ≡ true → list_any p (take l xs) ≡ true
  any_further p zero l xs le h = absurd (true≢false (sym h))
  any_further p (suc j) l [] le h = absurd (true≢false (sym h))
  any_further p (suc j) zero (x ∷ xs) le h = absurd (omega arith)
  any_further p (suc j) (suc l) (x ∷ xs) le h = by (p x) (λ g. any_further p j l xs (omega arith) g) h
    where
      by : (b : Bool) → (list_any p (take j xs) ≡ true → list_any p (take l xs) ≡ true) → (b || list_any p (take j xs)) ≡ true → (b || list_any p (take l xs)) ≡ true
      by true more g = refl
      by false more g = more g

  pub before_further : (j l : ℕ) (T : Typ) → j ≤ l → Before j T → Before l T
  before_further j l T le h = all_implies (is_known (take j E)) (is_known (take l E)) (λ p q. any_further (declares p.0 p.1) j l E le q) (mentions T) h

  -- a representation stands further before
  pub rep_before : (n t : Bytes) (j : ℕ) → is_known E (n, t) ≡ true → find_name E n ≡ Some j → Before j (opened E n t)
  rep_before n t j k f =
      let r = known_has E coherent n t k in
      subst (λ X. Before j X) (sym (ap (λ o. unwrap_or o (TAbs n t)) r.4)) (rep_earlier E coherent n t j r.1 f r.4)

  pub opened_before : (n t : Bytes) (l : ℕ) → Before (suc l) (TAbs n t) → Before l (opened E n t)
  opened_before n t l h =
      let g = (both_true (is_known (take (suc l) E) (n, t)) true h).0 in
      let r = known_earlier E (suc l) n t g in
      let lt : r.0 < suc l = r.2 in
      before_further r.0 l (opened E n t) (omega arith) (rep_before n t r.0 (any_taken (declares n t) (suc l) E g) r.1)

  -- a home that has the name n stands before what n.t represents
  pub own_before : (b : Home) (n t : Bytes) → is_known E (n, t) ≡ true → has_name E b n ≡ true → Before (ground E b) (opened E n t)
  own_before Main n t k h = absurd (true≢false (sym h))
  own_before (In i) n t k h = by (name_at E i) h
    where
      r : (j : ℕ) × (R : Typ) × (find_name E n ≡ Some j) × (j < length E) × (representation E n t ≡ Some R)
      r = known_has E coherent n t k

      by : (o : Option Bytes) → names o n ≡ true → Before (ground_of E o) (opened E n t)
      by None e = absurd (true≢false (sym e))
      by (Some m) e = subst (λ l. Before l (opened E n t)) (sym (ap (λ o. unwrap_or o (length E)) (ap (find_name E) (bytes_eq m n e) ∙ r.2))) (rep_before n t r.0 k r.2)
