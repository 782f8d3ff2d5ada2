-- What is typed never comes to what has no meaning.
use Rattle.std.proofs.Common.{◌≡◌, refl, sym, ap, ◌∙◌, subst, ℕ, zero, suc, Bool, true, false, cond, List, [], Option, Some, None, ⊎_elim}
use Rattle.std.specs.Prelude.{slice_get, is_some, option_map, option_and_then}
use Rattle.std.specs.List.{list_all}
use mathlib.Core.Bool.{true≢false}
use Rattle.ac_types.proofs.Same.{and_true, bytes_refl}
use Rattle.ac_types.proofs.FirstLaws.{none≢some, some_eq}
use Rattle.ac_types.specs.Types.{Bytes, Typ, TInt, TBool, TStr, TUnit, TExn, TTuple, TList, TOpt, TFun, TAbs, TMine, Typs, no_types, typ, mentions, mentions_of_all, same_bytes}
use Rattle.ac_terms.specs.Terms.{Home, Main, In, Expr, Int, Boolean, Str, Unit', Exn, ExnOf, Tuple, Nil, Empty, Present, Cons, Own, Ref, Lam, Rec, Exprs, no_exprs, expr, Value, VInt, VBool, VStr, VUnit, VExn, VTuple, VNil, VCons, VAbsent, VPresent, VProxy, VSeal, Values}
use Rattle.ac_types.specs.Sigs.{Signature, named_type}
use Rattle.ac_terms.specs.Defs.{Environment, Field, Module, module_of, signature, def_of, module_at, signature_at}
use Rattle.ac_rules.specs.Views.{Mode, Coloured, opens, view, representation, is_known, are_known}
use Rattle.ac_rules.specs.Typing.{fields_of, value_in, outside}
use Rattle.ac_rules.specs.Coherent.{IsCoherent}
use Rattle.ac_rules.proofs.Rules.{then_some, module_home}
use Rattle.ac_terms.proofs.AllLaws.{all_left, all_right}
use Rattle.ac_meaning.specs.Brackets.{inside_seal}
use Rattle.ac_meaning.specs.References.{own_field, Route, Nowhere, Once, Twice, route}
use Rattle.ac_meaning.proofs.Results.{Pure, Got, Bad, Deep, and_then}
use Rattle.ac_meaning.proofs.Eval.{Opening, too_deep, crossing_seal, crossing_name, with_type, crossing_list, crossing_option, with_text, as_many, crossing_with, crossing_all, crossing_in, crossing, rank, own_by, ref_by, worth, worth_all, worth_field, opening, place, opened}
use Rattle.ac_meaning.specs.Typed.{as_seen, Known, IsHome, own_type, Typed, AllTyped, ValuesTyped}
use Rattle.ac_meaning.proofs.Homes.{all_seen, seen_tuple, seen_list, seen_opt, seen_fun, seen_int, seen_bool, seen_str, seen_unit, seen_exn, seen_mine, view_shut, represented, representation_known, view_open, view_again}
use Rattle.ac_meaning.proofs.FromTypes.{KnownTypes}
use Rattle.ac_meaning.proofs.Shapes.{IsOf, Shape, shape, values_shape, no_values_shape}

-- a way to a field whose type is that of the reference, as the homes on the way see it
abbrev pub IsLinked : Environment → ℕ → Typ → Route → Type 0
IsLinked E j A Nowhere = ⊥
IsLinked E j A (Once m f T) = (T ≡ A) × ((F : Typ) × (own_type E (In m) f ≡ Some F) × (view Coloured E (In m) F ≡ view Coloured E (In m) A))
IsLinked E j A (Twice m f T S) = (T ≡ A) × (are_known E S ≡ true) × ((F : Typ) × (own_type E (In m) f ≡ Some F) × (S ≡ view Coloured E (In m) F) × (view Coloured E (In j) A ≡ view Coloured E (In m) F))

-- each value of a definition comes from a field of its type
pub record Links (E : Environment) : Type 0 where
  pub links : (j : ℕ) (x : Bytes) (A : Typ) → value_in E j x ≡ Some A → IsLinked E j A (route E j x)

-- each field is typed
abbrev pub FieldsTyped : Mode → Environment → Type 0
FieldsTyped mode E = (j f : ℕ) (e : Expr) → own_field E (In j) f ≡ Some e → (A : Typ) × (own_type E (In j) f ≡ Some A) × Typed mode E e (In j) [] (view mode E (In j) A)

-- a field has its type where it has its term
both_there : (o : Option Field) (A : Typ) → option_map (λ (x : Field). x.term) o ≡ None → option_map (λ (x : Field). x.ty) o ≡ Some A → ⊥
both_there None A p e = none≢some e
both_there (Some x) A p e = none≢some (sym p)

-- a pure result of this kind, if it is one
abbrev pub PureOk : {A : Type 0} → (A → Type 0) → Pure A → Type 0
PureOk P (Got a) = P a
PureOk P Bad = ⊥
PureOk P Deep = Unit {0}

pub then_pure : {A B : Type 0} (P : A → Type 0) (Q : B → Type 0) (p : Pure A) (f : A → Pure B) → PureOk P p → ((a : A) → P a → PureOk Q (f a)) → PureOk Q (and_then p f)
then_pure P Q (Got a) f h k = k a h
then_pure P Q Bad f h k = h
then_pure P Q Deep f h k = tt

module _ (mode : Mode) (E : Environment) (coherent : IsCoherent E) where
  abbrev sees : Home → Typ → Typ
  sees c T = as_seen mode E c T

  abbrev Of : Home → Typ → Value → Type 0
  Of c T v = IsOf mode E c T v

  abbrev AllOf : Home → Typs → Values → Type 0
  AllOf c Ts vs = ValuesTyped mode E vs c Ts

  abbrev IsKnown : Typ → Type 0
  IsKnown T = Known mode E T

  abbrev AtHome : Home → Type 0
  AtHome c = IsHome mode E c

  -- what a value of a written type looks like
  looks : (v : Value) (c : Home) (T U : Typ) → sees c T ≡ U → Of c (sees c T) v → Shape mode E U c v
  looks v c T U e h = shape mode E v c (sees c T) U e h

  at : (T U : Typ) (c : Home) (v : Value) → T ≡ U → Of c T v → Of c U v
  at T U c v e h = subst (λ X. Of c X v) e h

  -- lists and options
  is_list : Value → Bool
  is_list (VNil A) = true
  is_list (VCons x y) = true
  is_list v = false

  is_option : Value → Bool
  is_option (VAbsent A) = true
  is_option (VPresent x) = true
  is_option v = false

  listed : (v : Value) (c : Home) (A : Typ) → Of c (TList A) v → is_list v ≡ true
  unfolding is_list
  listed v c A h = ⊎_elim (λ p. ap is_list p.1) (λ p. ap is_list p.2) (shape mode E v c (TList A) (TList A) refl h)

  optional : (v : Value) (c : Home) (A : Typ) → Of c (TOpt A) v → is_option v ≡ true
  unfolding is_option
  optional v c A h = ⊎_elim (λ p. ap is_option p.1) (λ p. ap is_option p.1) (shape mode E v c (TOpt A) (TOpt A) refl h)

  list_ok : (L A B : Typ) (b c : Home) (f : Value → Pure Value) → TList B ≡ sees c L → IsKnown L → ((x : Value) → Of b A x → PureOk (Of c B) (f x)) → (v : Value) → Of b (TList A) v → PureOk (Of c (TList B)) (crossing_list L f v)
  unfolding is_list
  list_ok L A B b c f l m h (VNil U) k = (B, refl, l, m)
  list_ok L A B b c f l m h (VCons x y) k =
      let e = k.1 in
      let s : k.0 ≡ A = cc in
      then_pure (Of c B) (Of c (TList B)) (f x) _ (h x (at k.0 A b x s k.2)) (λ u p. then_pure (Of c (TList B)) (Of c (TList B)) (crossing_list L f y) _ (list_ok L A B b c f l m h y (at (TList k.0) (TList A) b y (ap TList s) k.3)) (λ w q. (B, refl, p, q)))
  list_ok L A B b c f l m h v k = absurd (true≢false (sym (listed v b A k)))

  option_ok : (L A B : Typ) (b c : Home) (f : Value → Pure Value) → TOpt B ≡ sees c L → IsKnown L → ((x : Value) → Of b A x → PureOk (Of c B) (f x)) → (v : Value) → Of b (TOpt A) v → PureOk (Of c (TOpt B)) (crossing_option L f v)
  unfolding is_option
  option_ok L A B b c f l m h (VAbsent U) k = (B, refl, l, m)
  option_ok L A B b c f l m h (VPresent x) k =
      let e = k.1 in
      let s : k.0 ≡ A = cc in
      then_pure (Of c B) (Of c (TOpt B)) (f x) _ (h x (at k.0 A b x s k.2)) (λ u p. (B, refl, p))
  option_ok L A B b c f l m h v k = absurd (true≢false (sym (optional v b A k)))

  -- what is inside a seal of a name
  inside_is : (d : Home) (n t : Bytes) (w : Value) → inside_seal n t (VSeal d n t w) ≡ Some (d, w)
  inside_is d n t w = ap (λ b. cond b (Some (d, w)) None) (and_true {a = same_bytes n n} {b = same_bytes t t} (bytes_refl n) (bytes_refl t))

  -- brackets
  abbrev OpensOk : Opening → Type 0
  OpensOk next = (n t : Bytes) (R : Typ) → representation E n t ≡ Some R → (b c : Home) (v : Value) → AtHome b → Of b (sees b R) v → PureOk (Of c (sees c R)) (next b c n t v)

  name_ok : (next : Opening) → OpensOk next → (b c : Home) (n t : Bytes) (v : Value) → IsKnown (TAbs n t) → (x y : Bool) → opens mode E b n ≡ x → opens mode E c n ≡ y → AtHome b → Of b (sees b (TAbs n t)) v → PureOk (Of c (sees c (TAbs n t))) (crossing_name next b c n t v x y)
  name_ok next h b c n t v k true true p q a i =
      let r = represented E coherent n t k in
      let B = view_open E coherent mode b n t r.0 r.1 k p in
      let C = view_open E coherent mode c n t r.0 r.1 k q in
      subst (λ X. PureOk (Of c X) (next b c n t v)) (sym C) (h n t r.0 r.1 b c v a (at _ _ b v B i))
  name_ok next h b c n t v k true false p q a i = at (TAbs n t) (sees c (TAbs n t)) c (VSeal b n t v) (sym (view_shut E mode c n t q)) (refl, k, p, q, i, a)
  name_ok next h b c n t v k false true p q a i =
      let s = looks v b (TAbs n t) (TAbs n t) (view_shut E mode b n t p) i in
      let r = represented E coherent n t k in
      let C = view_open E coherent mode c n t r.0 r.1 k q in
      let D = view_open E coherent mode s.0 n t r.0 r.1 k s.4 in
      let e : inside_seal n t v ≡ Some (s.0, s.1) = ap (inside_seal n t) s.2 ∙ inside_is s.0 n t s.1 in
      subst (λ o. PureOk (Of c (sees c (TAbs n t))) (crossing_seal o (λ d w. next d c n t w))) (sym e)
      (subst (λ X. PureOk (Of c X) (next s.0 c n t s.1)) (sym C) (h n t r.0 r.1 s.0 c s.1 s.6 (at _ _ s.0 s.1 D s.5)))
  name_ok next h b c n t v k false false p q a i =
      let s = looks v b (TAbs n t) (TAbs n t) (view_shut E mode b n t p) i in
      let e : inside_seal n t v ≡ Some (s.0, s.1) = ap (inside_seal n t) s.2 ∙ inside_is s.0 n t s.1 in
      let sealed : Of c (TAbs n t) (VSeal s.0 n t s.1) = (refl, s.3, s.4, q, s.5, s.6) in
      subst (λ o. PureOk (Of c (sees c (TAbs n t))) (cond (is_some o) (Got v) Bad)) (sym e)
      (at (TAbs n t) (sees c (TAbs n t)) c v (sym (view_shut E mode c n t q)) (subst (Of c (TAbs n t)) (sym s.2) sealed))

  -- a constant crosses
  const_ok : (c : Home) (T U : Typ) (v w : Value) (p : Value → Pure Value) → v ≡ w → PureOk (Of c T) (p w) → T ≡ U → PureOk (Of c U) (p v)
  const_ok c T U v w p e h q = subst (λ x. PureOk (Of c U) (p x)) (sym e) (subst (λ X. PureOk (Of c X) (p w)) q h)

  module _ (next : Opening) (h : OpensOk next) where
    abbrev across_with : Typ → Home → Home → Value → Pure Value
    across_with T b c v = crossing_with mode E next T b c v

    mutual
      cross_ok_with : (T : Typ) → IsKnown T → (b c : Home) (v : Value) → AtHome b → Of b (sees b T) v → PureOk (Of c (sees c T)) (crossing_with mode E next T b c v)
      cross_ok_with TInt k b c v o i = let s = looks v b TInt TInt (seen_int E mode b) i in const_ok c TInt (sees c TInt) v (VInt s.0) (across_with TInt b c) s.1 refl (sym (seen_int E mode c))
      cross_ok_with TBool k b c v o i = let s = looks v b TBool TBool (seen_bool E mode b) i in const_ok c TBool (sees c TBool) v (VBool s.0) (across_with TBool b c) s.1 refl (sym (seen_bool E mode c))
      cross_ok_with TStr k b c v o i = let s = looks v b TStr TStr (seen_str E mode b) i in const_ok c TStr (sees c TStr) v (VStr s.0) (across_with TStr b c) s.1 refl (sym (seen_str E mode c))
      cross_ok_with TUnit k b c v o i = let s = looks v b TUnit TUnit (seen_unit E mode b) i in const_ok c TUnit (sees c TUnit) v VUnit (across_with TUnit b c) s refl (sym (seen_unit E mode c))
      cross_ok_with TExn k b c v o i = let s = looks v b TExn TExn (seen_exn E mode b) i in const_ok c TExn (sees c TExn) v (VExn s.0 s.1) (across_with TExn b c) s.2 refl (sym (seen_exn E mode c))
      cross_ok_with (TTuple Ts) k b c v o i =
          let s = looks v b (TTuple Ts) (TTuple (all_seen E mode b Ts)) (seen_tuple E mode b Ts) i in
          let a = all_cross_ok Ts k b c s.0 o s.2 in
          const_ok c (TTuple (all_seen E mode c Ts)) (sees c (TTuple Ts)) v (VTuple s.0) (across_with (TTuple Ts) b c) s.1
          (subst (λ m. PureOk (Of c (TTuple (all_seen E mode c Ts))) (cond m (and_then (crossing_all mode E next Ts b c s.0) (λ ws. Got (VTuple ws))) Bad)) (sym a.0)
          (then_pure (AllOf c (all_seen E mode c Ts)) (Of c (TTuple (all_seen E mode c Ts))) (crossing_all mode E next Ts b c s.0) (λ ws. Got (VTuple ws)) a.1 (λ ws q. (all_seen E mode c Ts, refl, q))))
          (sym (seen_tuple E mode c Ts))
      cross_ok_with (TList T) k b c v o i =
          subst (λ X. PureOk (Of c X) (crossing_list (TList T) (crossing_with mode E next T b c) v)) (sym (seen_list E mode c T))
          (list_ok (TList T) (sees b T) (sees c T) b c (crossing_with mode E next T b c) (sym (seen_list E mode c T)) k (λ x j. cross_ok_with T k b c x o j) v (at _ _ b v (seen_list E mode b T) i))
      cross_ok_with (TOpt T) k b c v o i =
          subst (λ X. PureOk (Of c X) (crossing_option (TOpt T) (crossing_with mode E next T b c) v)) (sym (seen_opt E mode c T))
          (option_ok (TOpt T) (sees b T) (sees c T) b c (crossing_with mode E next T b c) (sym (seen_opt E mode c T)) k (λ x j. cross_ok_with T k b c x o j) v (at _ _ b v (seen_opt E mode b T) i))
      cross_ok_with (TFun T U) k b c v o i =
          let s = looks v b (TFun T U) (TFun (sees b T) (sees b U)) (seen_fun E mode b T U) i in
          let l = all_left (is_known E) (mentions T) (mentions U) k in
          let r = all_right (is_known E) (mentions T) (mentions U) k in
          subst (λ m. PureOk (Of c (sees c (TFun T U))) (cond m (Got (VProxy b T U v)) Bad)) (sym s) (seen_fun E mode c T U, l, r, at _ _ b v (seen_fun E mode b T U) i, o)
      cross_ok_with (TAbs n t) k b c v o i = name_ok next h b c n t v k (opens mode E b n) (opens mode E c n) refl refl o i
      cross_ok_with (TMine t) k b c v o i = absurd (looks v b (TMine t) (TMine t) (seen_mine E mode b t) i)

      all_cross_ok : (Ts : Typs) → list_all (is_known E) (mentions_of_all Ts) ≡ true → (b c : Home) (vs : Values) → AtHome b → AllOf b (all_seen E mode b Ts) vs → (as_many Ts vs ≡ true) × PureOk (AllOf c (all_seen E mode c Ts)) (crossing_all mode E next Ts b c vs)
      all_cross_ok no_types k b c vs o i =
          let e = no_values_shape mode E vs b i in
          (ap (as_many no_types) e, subst (λ x. PureOk (AllOf c no_types) (crossing_all mode E next no_types b c x)) (sym e) refl)
      all_cross_ok (typ T Ts) k b c vs o i =
          let s = values_shape mode E vs b (sees b T) (all_seen E mode b Ts) i in
          let l = all_left (is_known E) (mentions T) (mentions_of_all Ts) k in
          let r = all_right (is_known E) (mentions T) (mentions_of_all Ts) k in
          let a = all_cross_ok Ts r b c s.1 o s.4 in (
            ap (as_many (typ T Ts)) s.2 ∙ a.0,
            subst (λ x. PureOk (AllOf c (typ (sees c T) (all_seen E mode c Ts))) (crossing_all mode E next (typ T Ts) b c x)) (sym s.2)
                (then_pure (Of c (sees c T)) (AllOf c (typ (sees c T) (all_seen E mode c Ts))) (crossing_with mode E next T b c s.0) _ (cross_ok_with T l b c s.0 o s.3)
                (λ x p. then_pure (AllOf c (all_seen E mode c Ts)) (AllOf c (typ (sees c T) (all_seen E mode c Ts))) (crossing_all mode E next Ts b c s.1) _ a.1 (λ xs q. (sees c T, all_seen E mode c Ts, refl, p, q)))),
          )

  cross_ok_in : (r : ℕ) (T : Typ) → IsKnown T → (b c : Home) (v : Value) → AtHome b → Of b (sees b T) v → PureOk (Of c (sees c T)) (crossing_in mode E r T b c v)
  cross_ok_in zero = cross_ok_with too_deep (λ n t R e b c v o i. tt)
  cross_ok_in (suc r) = cross_ok_with (λ b c n t v. with_type (representation E n t) (λ R. crossing_in mode E r R b c v)) (λ n t R e b c v o i. subst (λ o. PureOk (Of c (sees c R)) (with_type o (λ X. crossing_in mode E r X b c v))) (sym e) (cross_ok_in r R (representation_known E coherent n t R e) b c v o i))

  pub cross_ok : (T : Typ) → IsKnown T → (b c : Home) (v : Value) → AtHome b → Of b (sees b T) v → PureOk (Of c (sees c T)) (crossing mode E T b c v)
  cross_ok T = cross_ok_in (rank E T) T

  pub own_home : (c : Home) (f : ℕ) (A : Typ) → own_type E c f ≡ Some A → AtHome c
  own_home Main f A e = refl
  own_home (In j) f A e = by (module_at E j) refl e
    where
      by : (o : Option Module) → module_at E j ≡ o → option_map (λ (x : Field). x.ty) (slice_get (elim o as (λ y. List Field) [ None ↦ [] | Some m ↦ m.fields ]) f) ≡ Some A → AtHome (In j)
      by None p q = absurd (none≢some q)
      by (Some m) p q = let d = then_some module_of (def_of E j) m p in ap (λ o. is_some (option_and_then signature o)) d.1 ∙ module_home d.0 m d.2

  pub value_home : (j : ℕ) (x : Bytes) (A : Typ) → value_in E j x ≡ Some A → AtHome (In j)
  value_home j x A e =
      let a = then_some (λ T. outside E j T) (option_and_then (λ (s : Signature). named_type x s.vals) (signature_at E j)) A e in
      let b = then_some (λ (s : Signature). named_type x s.vals) (signature_at E j) a.0 a.1 in
      ap is_some b.1

  -- fields
  module _ (known : KnownTypes E) (fields : FieldsTyped mode E) (links : Links E) where
    abbrev FieldsOk : (ℕ → ℕ → Pure Value) → Type 0
    FieldsOk q = (j f : ℕ) (A : Typ) → own_type E (In j) f ≡ Some A → PureOk (Of (In j) (sees (In j) A)) (q j f)

    own_ok : (q : ℕ → ℕ → Pure Value) → FieldsOk q → (c : Home) (f : ℕ) (A : Typ) → own_type E c f ≡ Some A → PureOk (Of c (sees c A)) (own_by mode E q c f)
    own_ok q h Main f A e = absurd (none≢some e)
    own_ok q h (In j) f A e = h j f A e

    -- what one home sees of two types alike, it sees alike in either mode
    alike : (c : Home) (F A : Typ) → IsKnown F → IsKnown A → view Coloured E c F ≡ view Coloured E c A → sees c F ≡ sees c A
    alike c F A k l e = sym (view_again E coherent mode c F k) ∙ ap (sees c) e ∙ view_again E coherent mode c A l

    ref_ok : (q : ℕ → ℕ → Pure Value) → FieldsOk q → (c : Home) (j : ℕ) (A : Typ) → AtHome (In j) → IsKnown A → (way : Route) → IsLinked E j A way → PureOk (Of c (sees c A)) (ref_by mode E q c j way)
    ref_ok q h c j A o k Nowhere l = absurd l
    ref_ok q h c j A o k (Once m f T) l =
        let F = l.1.0 in
        let field = h m f F l.1.1 in
        let e : sees (In m) F ≡ sees (In m) T = alike (In m) F A (known.own (In m) f F l.1.1) k l.1.2 ∙ ap (sees (In m)) (sym l.0) in
        subst (λ X. PureOk (Of c (sees c X)) (and_then (q m f) (λ v. crossing mode E T (In m) c v))) l.0
        (then_pure (Of (In m) (sees (In m) F)) (Of c (sees c T)) (q m f) _ field (λ v p. cross_ok T (subst IsKnown (sym l.0) k) (In m) c v (own_home (In m) f F l.1.1) (at _ _ (In m) v e p)))
    ref_ok q h c j A o k (Twice m f T S) l =
        let F = l.2.0 in
        let field = h m f F l.2.1 in
        let KF = known.own (In m) f F l.2.1 in
        let inner : sees (In m) F ≡ sees (In m) S = sym (ap (sees (In m)) l.2.2 ∙ view_again E coherent mode (In m) F KF) in
        let outer : sees (In j) S ≡ sees (In j) T = ap (sees (In j)) (l.2.2 ∙ sym l.2.3) ∙ view_again E coherent mode (In j) A k ∙ ap (sees (In j)) (sym l.0) in
        subst (λ X. PureOk (Of c (sees c X)) (and_then (and_then (q m f) (λ v. crossing mode E S (In m) (In j) v)) (λ v. crossing mode E T (In j) c v))) l.0
        (then_pure (Of (In j) (sees (In j) S)) (Of c (sees c T)) (and_then (q m f) (λ v. crossing mode E S (In m) (In j) v)) _
        (then_pure (Of (In m) (sees (In m) F)) (Of (In j) (sees (In j) S)) (q m f) _ field (λ v p. cross_ok S l.1 (In m) (In j) v (own_home (In m) f F l.2.1) (at _ _ (In m) v inner p)))
        (λ v p. cross_ok T (subst IsKnown (sym l.0) k) (In j) c v o (at _ _ (In j) v outer p)))

    pub text_ok : (k : ℕ) (v : Value) (c : Home) → Of c TStr v → PureOk (Of c TExn) (with_text k v)
    text_ok k v c h = let s = shape mode E v c TStr TStr refl h in subst (λ x. PureOk (Of c TExn) (with_text k x)) (sym s.1) refl

    module _ (q : ℕ → ℕ → Pure Value) (h : FieldsOk q) where
      mutual
        worth_ok : (e : Expr) (c : Home) (T : Typ) → Typed mode E e c [] T → PureOk (Of c T) (worth mode E q c e)
        worth_ok (Int n) c T k = k
        worth_ok (Boolean b) c T k = k
        worth_ok (Str s) c T k = k
        worth_ok Unit' c T k = k
        worth_ok (Exn x) c T k = k
        worth_ok (ExnOf x e) c T k = subst (λ X. PureOk (Of c X) (and_then (worth mode E q c e) (with_text x))) (sym k.0) (then_pure (Of c TStr) (Of c TExn) (worth mode E q c e) (with_text x) (worth_ok e c TStr k.1) (λ v p. text_ok x v c p))
        worth_ok (Tuple es) c T k = then_pure (AllOf c k.0) (Of c T) (worth_all mode E q c es) (λ vs. Got (VTuple vs)) (all_worth_ok es c k.0 k.2) (λ vs p. (k.0, k.1, p))
        worth_ok (Nil A) c T k = k
        worth_ok (Empty A) c T k = k
        worth_ok (Present e) c T k = then_pure (Of c k.0) (Of c T) (worth mode E q c e) (λ v. Got (VPresent v)) (worth_ok e c k.0 k.2) (λ v p. (k.0, k.1, p))
        worth_ok (Cons a b) c T k = then_pure (Of c k.0) (Of c T) (worth mode E q c a) _ (worth_ok a c k.0 k.2) (λ v p. then_pure (Of c (TList k.0)) (Of c T) (worth mode E q c b) _ (worth_ok b c (TList k.0) k.3) (λ w r. (k.0, k.1, p, r)))
        worth_ok (Own f) c T k = subst (λ X. PureOk (Of c X) (own_by mode E q c f)) (sym k.2) (own_ok q h c f k.0 k.1)
        worth_ok (Ref j x) c T k = subst (λ X. PureOk (Of c X) (ref_by mode E q c j (route E j x))) (sym k.2) (ref_ok q h c j k.0 (value_home j x k.0 k.1) (known.values j x k.0 k.1) (route E j x) (links.links j x k.0 k.1))
        worth_ok (Lam A e) c T k = k
        worth_ok (Rec A B e) c T k = k
        worth_ok _ c T k = tt

        all_worth_ok : (es : Exprs) (c : Home) (Ts : Typs) → AllTyped mode E es c [] Ts → PureOk (AllOf c Ts) (worth_all mode E q c es)
        all_worth_ok no_exprs c Ts k = k
        all_worth_ok (expr e es) c Ts k = then_pure (Of c k.0) (AllOf c Ts) (worth mode E q c e) _ (worth_ok e c k.0 k.3) (λ v p. then_pure (AllOf c k.1) (AllOf c Ts) (worth_all mode E q c es) _ (all_worth_ok es c k.1 k.4) (λ vs r. (k.0, k.1, k.2, p, r)))

    field_ok : (q : ℕ → ℕ → Pure Value) → FieldsOk q → (j f : ℕ) (A : Typ) → own_type E (In j) f ≡ Some A → PureOk (Of (In j) (sees (In j) A)) (worth_field mode E q j (own_field E (In j) f))
    field_ok q h j f A e = by (own_field E (In j) f) refl
      where
        by : (o : Option Expr) → own_field E (In j) f ≡ o → PureOk (Of (In j) (sees (In j) A)) (worth_field mode E q j o)
        by None p = absurd (both_there (slice_get (fields_of E (In j)) f) A p e)
        by (Some t) p =
            let k = fields j f t p in
            let same : k.0 ≡ A = some_eq (sym k.1 ∙ e) in
            subst (λ X. PureOk (Of (In j) (sees (In j) X)) (worth mode E q (In j) t)) same (worth_ok q h t (In j) (sees (In j) k.0) k.2)

    opening_ok : (r : ℕ) → FieldsOk (opening mode E r)
    opening_ok zero j f A e = tt
    opening_ok (suc r) j f A e = field_ok (opening mode E r) (opening_ok r) j f A e

    opened_ok : FieldsOk (opened mode E)
    opened_ok j f A e = opening_ok (suc (place j f)) j f A e

    pub field_value_ok : (c : Home) (f : ℕ) (A : Typ) → own_type E c f ≡ Some A → PureOk (Of c (sees c A)) (own_by mode E (opened mode E) c f)
    field_value_ok c f A e = own_ok (opened mode E) opened_ok c f A e

    pub reference_ok : (c : Home) (j : ℕ) (x : Bytes) (A : Typ) → value_in E j x ≡ Some A → PureOk (Of c (sees c A)) (ref_by mode E (opened mode E) c j (route E j x))
    reference_ok c j x A e = ref_ok (opened mode E) opened_ok c j A (value_home j x A e) (known.values j x A e) (route E j x) (links.links j x A e)
