-- What holds of each seal in a term holds of each in its list; and what is among two lists.
use Rattle.std.proofs.Common.{◌≡◌, ap, subst, List, [], ◌∷◌, ◌++◌, ◌⊎◌, inl, inr}
use Rattle.ac_terms.specs.Terms.{Expr, ExnOf, Tuple, Present, Cons, Lam, Rec, App, Let, If, Seq, Match, Try, Raise, Prim, Marshal, Unmarshal, Evaluated, Bracket, Exprs, no_exprs, expr, Arms, no_arms, arm, Value, VTuple, VCons, VPresent, VLam, VRec, VProxy, VSeal, Values, no_values, value}
use Rattle.ac_colours.specs.Births.{Seal, seals, all_seals, arms_seals, value_seals, values_seals, IsAmong}
use Rattle.ac_colours.specs.Sealed.{Saying, Sealed, AllSealed, ArmsSealed, ValueSealed, ValuesSealed}
use Rattle.ac_colours.proofs.Origins.{not_among}

pub among_one : {A : Type 0} (x y : A) → IsAmong x (y ∷ []) → x ≡ y
among_one x y h = by h.0 h.1 h.2
  where
    by : (front back : List _) → y ∷ [] ≡ front ++ x ∷ back → x ≡ y
    by [] back e = cc
    by (u ∷ front) back e = let q : [] ≡ front ++ x ∷ back = cc in absurd (not_among x front back q)

pub among_cases : {A : Type 0} (x : A) (xs ys : List A) → IsAmong x (xs ++ ys) → IsAmong x xs ⊎ IsAmong x ys
among_cases {A} x [] ys h = inr h
among_cases {A} x (y ∷ xs) ys h = by (λ k. among_cases x xs ys k) h.0 h.1 h.2
  where
    more : IsAmong x xs ⊎ IsAmong x ys → IsAmong x (y ∷ xs) ⊎ IsAmong x ys
    more (inl k) = inl (y ∷ k.0, k.1, ap (λ l. y ∷ l) k.2)
    more (inr k) = inr k

    by : (IsAmong x (xs ++ ys) → IsAmong x xs ⊎ IsAmong x ys) → (front back : List A) → y ∷ (xs ++ ys) ≡ front ++ x ∷ back → IsAmong x (y ∷ xs) ⊎ IsAmong x ys
    by again [] back e = let q : y ≡ x = cc in inl ([], xs, ap (λ u. u ∷ xs) q)
    by again (u ∷ front) back e = let q : xs ++ ys ≡ front ++ x ∷ back = cc in more (again (front, back, q))

module _ (P : Saying) where
  abbrev Holds : Seal → Type 0
  Holds x = P x.of_home x.of_name x.of_type x.value_inside

  abbrev pub Each : List Seal → Type 0
  Each [] = Unit {0}
  Each (x ∷ xs) = Holds x × Each xs

  each_both : (xs ys : List Seal) → Each xs → Each ys → Each (xs ++ ys)
  each_both [] ys h k = k
  each_both (x ∷ xs) ys h k = (h.0, each_both xs ys h.1 k)

  pub each_among : (x : Seal) (xs : List Seal) → Each xs → IsAmong x xs → P x.of_home x.of_name x.of_type x.value_inside
  each_among x xs h k = by k.0 k.1 (subst Each k.2 h)
    where
      by : (front back : List Seal) → Each (front ++ x ∷ back) → Holds x
      by [] back h = h.0
      by (y ∷ front) back h = by front back h.1

  mutual
    collected : (e : Expr) → Sealed P e → Each (seals e)
    collected (ExnOf k e) h = collected e h
    collected (Tuple es) h = all_collected es h
    collected (Present e) h = collected e h
    collected (Cons a b) h = each_both (seals a) (seals b) (collected a h.0) (collected b h.1)
    collected (Lam T e) h = collected e h
    collected (Rec T U e) h = collected e h
    collected (App a b) h = each_both (seals a) (seals b) (collected a h.0) (collected b h.1)
    collected (Let T a b) h = each_both (seals a) (seals b) (collected a h.0) (collected b h.1)
    collected (If c a b) h = each_both (seals c) (seals a ++ seals b) (collected c h.0) (each_both (seals a) (seals b) (collected a h.1) (collected b h.2))
    collected (Seq es) h = all_collected es h
    collected (Match e arms) h = each_both (seals e) (arms_seals arms) (collected e h.0) (arms_collected arms h.1)
    collected (Try e arms) h = each_both (seals e) (arms_seals arms) (collected e h.0) (arms_collected arms h.1)
    collected (Raise T e) h = collected e h
    collected (Prim k es) h = all_collected es h
    collected (Marshal T a b) h = each_both (seals a) (seals b) (collected a h.0) (collected b h.1)
    collected (Unmarshal T e) h = collected e h
    collected (Evaluated T v) h = value_collected v h
    collected (Bracket b T e) h = collected e h
    collected _ h = tt

    all_collected : (es : Exprs) → AllSealed P es → Each (all_seals es)
    all_collected no_exprs h = tt
    all_collected (expr e es) h = each_both (seals e) (all_seals es) (collected e h.0) (all_collected es h.1)

    arms_collected : (arms : Arms) → ArmsSealed P arms → Each (arms_seals arms)
    arms_collected no_arms h = tt
    arms_collected (arm p e rest) h = each_both (seals e) (arms_seals rest) (collected e h.0) (arms_collected rest h.1)

    pub value_collected : (v : Value) → ValueSealed P v → Each (value_seals v)
    value_collected (VTuple vs) h = values_collected vs h
    value_collected (VCons v w) h = each_both (value_seals v) (value_seals w) (value_collected v h.0) (value_collected w h.1)
    value_collected (VPresent v) h = value_collected v h
    value_collected (VLam T e) h = collected e h
    value_collected (VRec T U e) h = collected e h
    value_collected (VProxy b T U f) h = value_collected f h
    value_collected (VSeal b n t v) h = (h.0, value_collected v h.1)
    value_collected _ h = tt

    values_collected : (vs : Values) → ValuesSealed P vs → Each (values_seals vs)
    values_collected no_values h = tt
    values_collected (value v vs) h = each_both (value_seals v) (values_seals vs) (value_collected v h.0) (values_collected vs h.1)
