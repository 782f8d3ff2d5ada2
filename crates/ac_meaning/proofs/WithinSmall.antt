-- The packed value of a value within the bounds has small types.
use Rattle.std.proofs.Common.{◌≡◌, refl, Bool, true, false, List, [], ◌∷◌, ◌++◌, map, Option, Some, None}
use Rattle.std.specs.List.{list_all}
use Rattle.ac_types.proofs.Same.{both_true, and_true}
use Rattle.ac_types.specs.Types.{Typ, Typs, no_types, typ, is_small}
use Rattle.ac_terms.specs.Terms.{Home, Expr, Int, Boolean, Str, Unit', Exn, ExnOf, Tuple, Nil, Empty, Present, Cons, Var, Own, Ref, Lam, Rec, App, Let, If, Seq, Match, Try, Raise, Prim, Marshal, Unmarshal, Val, Evaluated, Bracket, Exprs, no_exprs, expr, Arms, no_arms, arm, PValue, KInt, KBool, KStr, KUnit, KExn, KTuple, KList, KAbsent, KPresent, KFun, Value, VInt, VBool, VStr, VUnit, VExn, VTuple, VNil, VCons, VAbsent, VPresent, VLam, VRec, VProxy, VSeal, Values, no_values, value}
use Rattle.ac_terms.specs.Defs.{Environment}
use Rattle.ac_terms.specs.Bounds.{has_small_types}
use Rattle.ac_terms.specs.Parts.{Portion, OfType, OfRef, OfHome, Captured, pattern_types, term_parts, all_term_parts, arm_parts, value_parts, all_value_parts}
use Rattle.ac_rules.specs.Views.{head}
use Rattle.ac_rules.specs.Typing.{tuple_parts, list_item, option_item}
use Rattle.ac_rules.specs.Plain.{stays, where_there, in_front, may_travel, travelling}
use Rattle.ac_meaning.specs.BareTerms.{bare_term, bare_all, bare_arms, bare_value, bare_values}
use Rattle.ac_meaning.specs.BarePacking.{bare_packed as packed, bare_all_packed as all_packed, bare_packed_term as packed_term, bare_packed_terms as packed_terms, bare_packed_arms as packed_arms}
use Rattle.ac_meaning.proofs.Within.{Within, AllWithin, ArmsWithin, ValueWithin, ValuesWithin}

abbrev pub Small : List Portion → Type 0
Small ps = has_small_types ps ≡ true

pub both : (ps qs : List Portion) → Small ps → Small qs → Small (ps ++ qs)
both [] qs h k = k
both (OfType T ∷ ps) qs h k = let p = both_true (is_small T) (has_small_types ps) h in and_true {a = is_small T} {b = has_small_types (ps ++ qs)} p.0 (both ps qs p.1 k)
both (OfRef j x ∷ ps) qs h k = both ps qs h k
both (OfHome c ∷ ps) qs h k = both ps qs h k
both (Captured ∷ ps) qs h k = both ps qs h k

pub first : (T : Typ) (ps : List Portion) → is_small T ≡ true → Small ps → Small (OfType T ∷ ps)
first T ps h k = and_true {a = is_small T} {b = has_small_types ps} h k

pub each : (Ts : List Typ) → list_all is_small Ts ≡ true → Small (map OfType Ts)
each [] h = refl
each (T ∷ Ts) h = let p = both_true (is_small T) (list_all is_small Ts) h in first T (map OfType Ts) p.0 (each Ts p.1)

there : {A : Type 0} (o : Option A) (f : A → PValue) → ((a : A) → Small (value_parts (f a))) → Small (value_parts (where_there o f))
there None f h = refl
there (Some a) f h = h a

in_front_small : (x y : PValue) → Small (value_parts x) → Small (value_parts y) → Small (value_parts (in_front x y))
in_front_small x (KList ys) h k = both (value_parts x) (all_value_parts ys) h k
in_front_small x (KInt n) h k = refl
in_front_small x (KBool b) h k = refl
in_front_small x (KStr s) h k = refl
in_front_small x KUnit h k = refl
in_front_small x (KExn j s) h k = refl
in_front_small x (KTuple vs) h k = refl
in_front_small x KAbsent h k = refl
in_front_small x (KPresent v) h k = refl
in_front_small x (KFun c l) h k = refl

module _ (E : Environment) where
  travelling_small : (c : Home) (l : Expr) (T : Typ) → Small (term_parts l) → Small (value_parts (travelling E c l T))
  travelling_small c l T h = by (may_travel E c l T)
    where
      by : (b : Bool) → Small (value_parts (elim b as (λ z. PValue) [ true ↦ KFun c l | false ↦ stays ]))
      by true = h
      by false = refl

  abbrev p! : Home → Expr → Expr
  p! c e = packed_term E (bare_term c e)

  mutual
    pub packed_small : (v : Value) (c : Home) (T : Typ) → ValueWithin v → Small (value_parts (packed E (bare_value c v) T))
    packed_small (VInt n) c T h = refl
    packed_small (VBool b) c T h = refl
    packed_small (VStr s) c T h = refl
    packed_small VUnit c T h = refl
    packed_small (VExn k s) c T h = refl
    packed_small (VTuple vs) c T h = there (tuple_parts (head E T)) (λ Ts. KTuple (all_packed E (bare_values c vs) Ts)) (λ Ts. all_packed_small vs c Ts h.1)
    packed_small (VNil U) c T h = refl
    packed_small (VCons v w) c T h =
        in_front_small (where_there (list_item (head E T)) (λ U. packed E (bare_value c v) U)) (packed E (bare_value c w) T)
        (there (list_item (head E T)) (λ U. packed E (bare_value c v) U) (λ U. packed_small v c U h.0)) (packed_small w c T h.1)
    packed_small (VAbsent U) c T h = refl
    packed_small (VPresent v) c T h = there (option_item (head E T)) (λ U. KPresent (packed E (bare_value c v) U)) (λ U. packed_small v c U h)
    packed_small (VLam U e) c T h = travelling_small c (Lam U (p! c e)) T (first U (term_parts (p! c e)) h.0.1 (term_small e c h.1))
    packed_small (VRec U W e) c T h = travelling_small c (Rec U W (p! c e)) T (first U (OfType W ∷ term_parts (p! c e)) h.0.1 (first W (term_parts (p! c e)) h.1.1 (term_small e c h.3)))
    packed_small (VProxy b U W g) c T h = packed_small g b T h
    packed_small (VSeal b n t v) c T h = packed_small v b T h

    all_packed_small : (vs : Values) (c : Home) (Ts : Typs) → ValuesWithin vs → Small (all_value_parts (all_packed E (bare_values c vs) Ts))
    all_packed_small no_values c no_types h = refl
    all_packed_small (value v vs) c (typ T Ts) h = both (value_parts (packed E (bare_value c v) T)) (all_value_parts (all_packed E (bare_values c vs) Ts)) (packed_small v c T h.0) (all_packed_small vs c Ts h.1)
    all_packed_small no_values c (typ T Ts) h = refl
    all_packed_small (value v vs) c no_types h = refl

    term_small : (e : Expr) (c : Home) → Within true e → Small (term_parts (p! c e))
    term_small (Int n) c h = refl
    term_small (Boolean b) c h = refl
    term_small (Str s) c h = refl
    term_small Unit' c h = refl
    term_small (Exn k) c h = refl
    term_small (ExnOf k e) c h = term_small e c h.1
    term_small (Tuple es) c h = terms_small es c h.1
    term_small (Nil T) c h = first T [] h.1 refl
    term_small (Empty T) c h = first T [] h.1 refl
    term_small (Present e) c h = term_small e c h
    term_small (Cons a b) c h = both (term_parts (p! c a)) (term_parts (p! c b)) (term_small a c h.0) (term_small b c h.1)
    term_small (Var i) c h = refl
    term_small (Own g) c h = refl
    term_small (Ref j x) c h = refl
    term_small (Lam T e) c h = first T (term_parts (p! c e)) h.0.1 (term_small e c h.1)
    term_small (Rec T U e) c h = first T (OfType U ∷ term_parts (p! c e)) h.0.1 (first U (term_parts (p! c e)) h.1.1 (term_small e c h.3))
    term_small (App a b) c h = both (term_parts (p! c a)) (term_parts (p! c b)) (term_small a c h.0) (term_small b c h.1)
    term_small (Let T a b) c h = first T (term_parts (p! c a) ++ term_parts (p! c b)) h.0.1 (both (term_parts (p! c a)) (term_parts (p! c b)) (term_small a c h.1) (term_small b c h.2))
    term_small (If x a b) c h =
        both (term_parts (p! c x) ++ term_parts (p! c a)) (term_parts (p! c b)) (both (term_parts (p! c x)) (term_parts (p! c a)) (term_small x c h.0) (term_small a c h.1)) (term_small b c h.2)
    term_small (Seq es) c h = terms_small es c h.1
    term_small (Match e arms) c h = both (term_parts (p! c e)) (arm_parts (packed_arms E (bare_arms c arms))) (term_small e c h.0) (arms_small arms c h.1)
    term_small (Try e arms) c h = both (term_parts (p! c e)) (arm_parts (packed_arms E (bare_arms c arms))) (term_small e c h.0) (arms_small arms c h.1)
    term_small (Raise T e) c h = first T (term_parts (p! c e)) h.0.1 (term_small e c h.1)
    term_small (Prim k es) c h = terms_small es c h.1
    term_small (Marshal T a b) c h = first T (term_parts (p! c a) ++ term_parts (p! c b)) h.0.1 (both (term_parts (p! c a)) (term_parts (p! c b)) (term_small a c h.1) (term_small b c h.2))
    term_small (Unmarshal T e) c h = first T (term_parts (p! c e)) h.0.1 (term_small e c h.1)
    term_small (Val T v) c h = absurd h
    term_small (Evaluated T v) c h = first T (Captured ∷ value_parts (packed E (bare_value c v) T)) h.0.1 (packed_small v c T h.1)
    term_small (Bracket b T e) c h = refl

    terms_small : (es : Exprs) (c : Home) → AllWithin true es → Small (all_term_parts (packed_terms E (bare_all c es)))
    terms_small no_exprs c h = refl
    terms_small (expr e es) c h = both (term_parts (p! c e)) (all_term_parts (packed_terms E (bare_all c es))) (term_small e c h.0) (terms_small es c h.1)

    arms_small : (arms : Arms) (c : Home) → ArmsWithin arms → Small (arm_parts (packed_arms E (bare_arms c arms)))
    arms_small no_arms c h = refl
    arms_small (arm p e rest) c h =
        both (map OfType (pattern_types p) ++ term_parts (p! c e)) (arm_parts (packed_arms E (bare_arms c rest)))
        (both (map OfType (pattern_types p)) (term_parts (p! c e)) (each (pattern_types p) h.0.1) (term_small e c h.1)) (arms_small rest c h.2)
