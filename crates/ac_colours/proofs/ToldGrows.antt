-- What the seals of a typed term tell stays as the definitions grow.
use Rattle.std.proofs.Common.{◌≡◌, refl, sym, ap, ◌∙◌, subst, Bool, true, false, cond, List, [], ◌∷◌, ◌++◌, Option, Some, None, append_assoc}
use Rattle.std.specs.Prelude.{option_map, option_to_list}
use Rattle.ac_types.specs.Types.{Bytes, Typ, TBool, TStr, TExn, TFun, TList, TAbs, Typs, has_function}
use Rattle.ac_terms.specs.Terms.{Home, Expr, ExnOf, Tuple, Present, Cons, Lam, Rec, App, Let, If, Seq, Match, Try, Raise, Prim, Marshal, Unmarshal, Val, Evaluated, Bracket, Exprs, no_exprs, expr, Arms, no_arms, arm, PValue, Value, VTuple, VCons, VPresent, VLam, VRec, VProxy, VSeal, Values, no_values, value}
use Rattle.ac_terms.specs.Defs.{Environment}
use Rattle.ac_rules.specs.Views.{Coloured, bare, opened}
use Rattle.ac_rules.specs.Plain.{plain}
use Rattle.ac_rules.specs.Growth.{Widening}
use Rattle.ac_meaning.specs.Typed.{as_seen, Typed, AllTyped, ArmsTyped, ValueTyped, ValuesTyped}
use Rattle.ac_colours.specs.Births.{seal, told, Birth, birth, births, Event, Born, Gave, Took, IsAmong}
use Rattle.ac_colours.specs.Sealed.{Sealed, AllSealed, ArmsSealed, ValueSealed, ValuesSealed}
use Rattle.ac_colours.proofs.Origins.{among_left, among_right, not_among}
use Rattle.ac_colours.proofs.Says.{OfBirth, Told}
use Rattle.ac_colours.proofs.Telling.{told_same}

-- what was born in these events
abbrev pub BornIn : List Event → OfBirth
BornIn all n t w = IsAmong (birth n t w) (births all)

pub births_both : (xs ys : List Event) → births (xs ++ ys) ≡ births xs ++ births ys
births_both [] ys = refl
births_both (Born E x ∷ xs) ys = ap (λ l. told E x ++ l) (births_both xs ys) ∙ sym (append_assoc (told E x) (births xs) (births ys))
births_both (Gave s ∷ xs) ys = births_both xs ys
births_both (Took E s x ∷ xs) ys = births_both xs ys

pub born_more : (xs ys : List Event) (n t : Bytes) (w : PValue) → BornIn xs n t w → BornIn (xs ++ ys) n t w
born_more xs ys n t w h = subst (IsAmong (birth n t w)) (sym (births_both xs ys)) (among_left (birth n t w) (births xs) (births ys) h)

pub born_later : (xs ys : List Event) (n t : Bytes) (w : PValue) → BornIn ys n t w → BornIn (xs ++ ys) n t w
born_later xs ys n t w h = subst (IsAmong (birth n t w)) (sym (births_both xs ys)) (among_right (birth n t w) (births xs) (births ys) h)

-- a seal of a first-order type whose value travels tells it
module _ (E : Environment) (b : Home) (n t : Bytes) (v : Value) where
  abbrev say : Option PValue → List Birth
  say o = option_to_list (option_map (λ p. birth n t p) o)

  pub told_is : (w : PValue) → has_function (bare E (TAbs n t)) ≡ false → plain E b v (opened E n t) ≡ Some w → told E (seal b n t v) ≡ birth n t w ∷ []
  told_is w f p = ap (λ x. cond x [] (say (plain E b v (opened E n t)))) f ∙ ap say p

  -- and a seal tells nothing else
  pub tells : (d : Birth) → IsAmong d (told E (seal b n t v)) → (w : PValue) × (has_function (bare E (TAbs n t)) ≡ false) × (plain E b v (opened E n t) ≡ Some w) × (d ≡ birth n t w)
  tells d h = by (has_function (bare E (TAbs n t))) refl (plain E b v (opened E n t)) refl h
    where
      only : (x : Birth) (front back : List Birth) → x ∷ [] ≡ front ++ d ∷ back → d ≡ x
      only x [] back e = cc
      only x (y ∷ front) back e = let q : [] ≡ front ++ d ∷ back = cc in absurd (not_among d front back q)

      by : (x : Bool) → has_function (bare E (TAbs n t)) ≡ x → (o : Option PValue) → plain E b v (opened E n t) ≡ o → IsAmong d (cond x [] (say o)) → (w : PValue) × (has_function (bare E (TAbs n t)) ≡ false) × (plain E b v (opened E n t) ≡ Some w) × (d ≡ birth n t w)
      by true f o p k = absurd (not_among d k.0 k.1 k.2)
      by false f None p k = absurd (not_among d k.0 k.1 k.2)
      by false f (Some w) p k = (w, f, p, only (birth n t w) k.0 k.1 k.2)

module _ (E F : Environment) (g : Widening E F) (K L : OfBirth) (weaken : (n t : Bytes) (w : PValue) → K n t w → L n t w) where
  pub one_told : (b c : Home) (n t : Bytes) (v : Value) (T : Typ) → ValueTyped Coloured E (VSeal b n t v) c T → Told E K b n t v → Told F L b n t v
  one_told b c n t v T h k = λ w f p.
      let same = told_same E F g b c n t v T h in
      let e = tells E b n t v (birth n t w) (subst (IsAmong (birth n t w)) (sym (told_is F b n t v w f p) ∙ same) ([], [], refl)) in
      let w' : w ≡ e.0 = ap (λ (d : Birth). d.said) e.3 in
      weaken n t w (k w e.1 (e.2 ∙ ap Some (sym w')))

  mutual
    pub told_grows : (e : Expr) (c : Home) (G : List Typ) (T : Typ) → Typed Coloured E e c G T → Sealed (Told E K) e → Sealed (Told F L) e
    told_grows (ExnOf k e) c G T t s = told_grows e c G TStr t.1 s
    told_grows (Tuple es) c G T t s = all_told_grow es c G t.0 t.2 s
    told_grows (Present e) c G T t s = told_grows e c G t.0 t.2 s
    told_grows (Cons a b) c G T t s = (told_grows a c G t.0 t.2 s.0, told_grows b c G (TList t.0) t.3 s.1)
    told_grows (Lam A e) c G T t s = told_grows e c (as_seen Coloured E c A ∷ G) t.0 t.2 s
    told_grows (Rec A B e) c G T t s = told_grows e c (as_seen Coloured E c A ∷ TFun (as_seen Coloured E c A) (as_seen Coloured E c B) ∷ G) (as_seen Coloured E c B) t.1 s
    told_grows (App f a) c G T t s = (told_grows f c G (TFun t.0 T) t.1 s.0, told_grows a c G t.0 t.2 s.1)
    told_grows (Let A e b) c G T t s = (told_grows e c G (as_seen Coloured E c A) t.0 s.0, told_grows b c (as_seen Coloured E c A ∷ G) T t.1 s.1)
    told_grows (If e a b) c G T t s = (told_grows e c G TBool t.0 s.0, told_grows a c G T t.1 s.1, told_grows b c G T t.2 s.2)
    told_grows (Seq es) c G T t s = all_told_grow es c G t.0 t.1 s
    told_grows (Match e arms) c G T t s = (told_grows e c G t.0 t.1 s.0, arms_told_grow arms c G t.0 T t.2 s.1)
    told_grows (Try e arms) c G T t s = (told_grows e c G T t.0 s.0, arms_told_grow arms c G TExn T t.1 s.1)
    told_grows (Raise A e) c G T t s = told_grows e c G TExn t.1 s
    told_grows (Prim k es) c G T t s = all_told_grow es c G t.0 t.1 s
    told_grows (Marshal A m e) c G T t s = (told_grows m c G TStr t.1 s.0, told_grows e c G (as_seen Coloured E c A) t.2 s.1)
    told_grows (Unmarshal A e) c G T t s = told_grows e c G TStr t.1 s
    told_grows (Evaluated A v) c G T t s = value_told_grows v c T t.1 s
    told_grows (Bracket b A e) c G T t s = told_grows e b [] (as_seen Coloured E b A) t.2 s
    told_grows (Val A v) c G T t s = absurd t
    told_grows _ c G T t s = tt

    all_told_grow : (es : Exprs) (c : Home) (G : List Typ) (Ts : Typs) → AllTyped Coloured E es c G Ts → AllSealed (Told E K) es → AllSealed (Told F L) es
    all_told_grow no_exprs c G Ts t s = tt
    all_told_grow (expr e es) c G Ts t s = (told_grows e c G t.0 t.3 s.0, all_told_grow es c G t.1 t.4 s.1)

    arms_told_grow : (arms : Arms) (c : Home) (G : List Typ) (A T : Typ) → ArmsTyped Coloured E arms c G A T → ArmsSealed (Told E K) arms → ArmsSealed (Told F L) arms
    arms_told_grow no_arms c G A T t s = tt
    arms_told_grow (arm p e rest) c G A T t s = (told_grows e c (t.0 ++ G) T t.2 s.0, arms_told_grow rest c G A T t.3 s.1)

    pub value_told_grows : (v : Value) (c : Home) (T : Typ) → ValueTyped Coloured E v c T → ValueSealed (Told E K) v → ValueSealed (Told F L) v
    value_told_grows (VTuple vs) c T t s = values_told_grow vs c t.0 t.2 s
    value_told_grows (VCons v w) c T t s = (value_told_grows v c t.0 t.2 s.0, value_told_grows w c (TList t.0) t.3 s.1)
    value_told_grows (VPresent v) c T t s = value_told_grows v c t.0 t.2 s
    value_told_grows (VLam A e) c T t s = told_grows e c (as_seen Coloured E c A ∷ []) t.0 t.2 s
    value_told_grows (VRec A B e) c T t s = told_grows e c (as_seen Coloured E c A ∷ TFun (as_seen Coloured E c A) (as_seen Coloured E c B) ∷ []) (as_seen Coloured E c B) t.1 s
    value_told_grows (VProxy b A B f) c T t s = value_told_grows f b (TFun (as_seen Coloured E b A) (as_seen Coloured E b B)) t.3 s
    value_told_grows (VSeal b n u v) c T t s = (one_told b c n u v T t s.0, value_told_grows v b (as_seen Coloured E b (TAbs n u)) t.4 s.1)
    value_told_grows _ c T t s = tt

    values_told_grow : (vs : Values) (c : Home) (Ts : Typs) → ValuesTyped Coloured E vs c Ts → ValuesSealed (Told E K) vs → ValuesSealed (Told F L) vs
    values_told_grow no_values c Ts t s = tt
    values_told_grow (value v vs) c Ts t s = (value_told_grows v c t.0 t.3 s.0, values_told_grow vs c t.1 t.4 s.1)
