-- A typed term comes without brackets to what it comes to with them, in either mode.
use Rattle.std.proofs.Common.{◌≡◌, refl, sym, ap, ◌∙◌, subst, ℕ, zero, suc, Bool, true, false, nat_lt, cond, List, [], ◌∷◌, ◌++◌, Option, Some, None, ◌⊎◌, inl, inr}
use Rattle.std.specs.Prelude.{option_map, option_and_then, nat_eq}
use mathlib.Core.Bool.{true≢false}
use Rattle.ac_types.specs.Partial.{given}
use Rattle.ac_types.specs.Types.{Bytes, Typ, TInt, TBool, TStr, TUnit, TExn, TTuple, TList, TOpt, TFun, Typs, mentions}
use Rattle.ac_terms.specs.Terms.{Home, Pattern, PWild, PVar, PInt, PBool, PStr, PUnit, PTuple, PNil, PCons, PAbsent, PPresent, PExn, PExnOf, Patterns, no_patterns, pattern', Expr, Int, Boolean, Str, Unit', Exn, ExnOf, Tuple, Nil, Empty, Present, Cons, Var, Own, Ref, Lam, Rec, App, Let, If, Seq, Match, Try, Raise, Prim, Marshal, Unmarshal, Val, Evaluated, Bracket, Exprs, no_exprs, expr, Arms, no_arms, arm, Value, VStr, VExn, VNil, VCons, VAbsent, VPresent, VLam, VRec, VProxy, Values, no_values, value}
use Rattle.ac_terms.specs.Defs.{Environment}
use Rattle.ac_rules.specs.Plain.{packed}
use Rattle.ac_rules.specs.Views.{Mode, is_known}
use Rattle.ac_terms.proofs.AllLaws.{all_append}
use Rattle.ac_meaning.proofs.PackedAlike.{packed_alike}
use Rattle.ac_meaning.specs.Worlds.{Exception, World, match_failure_exn, counted, grown, Read, with_crossing}
use Rattle.ac_rules.specs.Growth.{Grows}
use Rattle.ac_meaning.specs.Packing.{Packing, CannotPack, Packs, Arrival, Unfit, Brings, packing, arrival}
use Rattle.ac_meaning.specs.Substitution.{Written}
use Rattle.ac_meaning.specs.Matching.{fit, fit_all}
use Rattle.ac_meaning.specs.PrimitiveSteps.{exception_value}
use Rattle.ac_meaning.specs.References.{target, route}
use Rattle.ac_meaning.specs.BareTerms.{Bare, WStr, WLam, WRec, BareValue, bare_term, bare_all, bare_arms, bare_value, bare_values}
use Rattle.ac_meaning.specs.BareReduction as b
use Rattle.ac_meaning.specs.BareReduction.{BareWritten}
use Rattle.ac_meaning.proofs.Results.{Result, Fine, Raising, Spending, Wrongly, TooDeep, M, then', give, raise, follow, Got}
use Rattle.ac_meaning.proofs.Eval as full
use Rattle.ac_meaning.proofs.Eval.{crossing, across, own_by, ref_by, fitted, eval, eval_all, eval_rest, eval_arms, calling, depth, packed_as, arrived_as}
use Rattle.ac_meaning.proofs.BareEval as lean
use Rattle.ac_meaning.specs.Typed.{as_seen, Known, Fits, AllFit, Typed, AllTyped, ArmsTyped, ValuesTyped, WrittenTyped}
use Rattle.ac_meaning.proofs.Homes.{seen_fun}
use Rattle.ac_meaning.proofs.Shapes.{IsOf, shape, fit_typed}
use Rattle.ac_meaning.proofs.Arrivals.{Arrives}
use Rattle.ac_meaning.proofs.Safe.{Ok, Of}
use Rattle.ac_meaning.proofs.Progress.{At, Good, later, term_later, terms_later, arms_later, value_later, written_later, known_later, seen_later, across_ok, callable, sound, depth_sound}
use Rattle.ac_meaning.proofs.BareSame.{bare_env, bare-inst, Same, same_seq, same_after, lift_same, found_same, branch_same, throw_same, text_same, primitive_same, cross_same, own_value_same, ref_value_same}

-- one after the other, where the value of the first is of some kind
same_typed : {A B C D : Type 0} (E : Environment) (P : Environment → A → Type 0) (h : A → C) (k : B → D) (r : Result A) (s : Result C) (f : A → M B) (g : C → M D) → Ok E P r → Same h r s → ((v : A) (y : World) → Grows E y.environment → P y.environment v → Same k (f v y) (g (h v) y)) → Same k (then' r f raise) (then' s g raise)
same_typed E P h k (Fine v y) s f g o e go = subst (λ s. Same k (f v y) (then' s g raise)) (sym e) (go v y o.0 o.1)
same_typed E P h k (Raising x y) s f g o e go = ap (λ s. then' s g raise) e
same_typed E P h k (Spending y) s f g o e go = ap (λ s. then' s g raise) e
same_typed E P h k Wrongly s f g o e go = tt
same_typed E P h k TooDeep s f g o e go = tt

-- what the bare side has already
typed_before : {A B C D : Type 0} (E : Environment) (P : Environment → A → Type 0) (h : A → C) (k : B → D) (r : Result A) (w : C) (z : World) (f : A → M B) (s : Result D) → Ok E P r → Same h r (Fine w z) → ((v : A) → Grows E z.environment → P z.environment v → h v ≡ w → Same k (f v z) s) → Same k (then' r f raise) s
typed_before E P h k (Fine v y) w z f s o e go =
    let p : h v ≡ w = cc in
    let q : y ≡ z = cc in
    subst (λ x. Same k (f v x) s) (sym q) (go v (subst (λ (x : World). Grows E x.environment) q o.0) (subst (λ (x : World). P x.environment v) q o.1) p)
typed_before E P h k (Raising x y) w z f s o e go = absurd cc
typed_before E P h k (Spending y) w z f s o e go = absurd cc
typed_before E P h k Wrongly w z f s o e go = tt
typed_before E P h k TooDeep w z f s o e go = tt

-- a handler
handled_same : {A B : Type 0} (E : Environment) (P : Environment → A → Type 0) (h : A → B) (r : Result A) (s : Result B) (f : Exception → M A) (g : Exception → M B) → Ok E P r → Same h r s → ((x : Exception) (y : World) → Grows E y.environment → Same h (f x y) (g x y)) → Same h (then' r give f) (then' s give g)
handled_same E P h (Fine v y) s f g o e out = ap (λ s. then' s give g) e
handled_same E P h (Raising x y) s f g o e out = subst (λ s. Same h (f x y) (then' s give g)) (sym e) (out x y o)
handled_same E P h (Spending y) s f g o e out = ap (λ s. then' s give g) e
handled_same E P h Wrongly s f g o e out = tt
handled_same E P h TooDeep s f g o e out = tt

-- what is bound, bare
abbrev bound : Home → Option Written → Option BareWritten
bound c o = option_map (bare_env c) o

given_bound : (c : Home) (t : Bool) (o : Option Written) (o' : Option BareWritten) → o' ≡ bound c o → given t o' ≡ bound c (given t o)
given_bound c true o o' h = h
given_bound c false o o' h = refl

then_bound : (c : Home) (f : Written → Option Written) (f' : BareWritten → Option BareWritten) (o : Option Written) (o' : Option BareWritten) → o' ≡ bound c o → ((ws : Written) → f' (bare_env c ws) ≡ bound c (f ws)) → option_and_then f' o' ≡ bound c (option_and_then f o)
then_bound c f f' None o' h k = ap (option_and_then f') h
then_bound c f f' (Some ws) o' h k = ap (option_and_then f') h ∙ k ws

fitted_same : (c : Home) (o : Option Written) (o' : Option BareWritten) (f : Written → M Value) (f' : BareWritten → M BareValue) (m : M Value) (m' : M BareValue) (z : World) → o' ≡ bound c o → ((ws : Written) → o ≡ Some ws → Same (bare_value c) (f ws z) (f' (bare_env c ws) z)) → Same (bare_value c) (m z) (m' z) → Same (bare_value c) (fitted o f m z) (fitted o' f' m' z)
fitted_same c None o' f f' m m' z e h k = subst (λ x. Same (bare_value c) (m z) (fitted x f' m' z)) (sym e) k
fitted_same c (Some ws) o' f f' m m' z e h k = subst (λ x. Same (bare_value c) (f ws z) (fitted x f' m' z)) (sym e) (h ws refl)

module _ (mode : Mode) (E : Environment) where
  -- a pattern fits what is bare as it fits the value, where both have one type
  abbrev Agree : Pattern → Home → Written → Value → Type 0
  Agree p c ws v = b.fit p (bare_value c v) (bare_env c ws) ≡ bound c (fit p v ws)

  mutual
    pub fit_same : (p : Pattern) (v : Value) (ws : Written) (c : Home) (A : Typ) (Us : List Typ) → IsOf mode E c A v → Fits mode E p c A Us → Agree p c ws v
    fit_same PWild v ws c A Us k h = refl
    fit_same (PVar U) v ws c A Us k h = refl
    fit_same (PInt n) v ws c A Us k h = let s = shape mode E v c A TInt h.0 k in subst (Agree (PInt n) c ws) (sym s.1) (given_bound c _ (Some ws) (Some (bare_env c ws)) refl)
    fit_same (PBool x) v ws c A Us k h = let s = shape mode E v c A TBool h.0 k in subst (Agree (PBool x) c ws) (sym s.1) (given_bound c _ (Some ws) (Some (bare_env c ws)) refl)
    fit_same (PStr x) v ws c A Us k h = let s = shape mode E v c A TStr h.0 k in subst (Agree (PStr x) c ws) (sym s.1) (given_bound c _ (Some ws) (Some (bare_env c ws)) refl)
    fit_same PUnit v ws c A Us k h = let s = shape mode E v c A TUnit h.0 k in subst (Agree PUnit c ws) (sym s) refl
    fit_same (PTuple ps) v ws c A Us k h = let s = shape mode E v c A (TTuple h.0) h.1 k in subst (Agree (PTuple ps) c ws) (sym s.1) (all_fit_same ps s.0 ws c h.0 Us s.2 h.2)
    fit_same PNil v ws c A Us k h = by (shape mode E v c A (TList h.0) h.1 k)
      where
        by : ((B : Typ) × (v ≡ VNil B)) ⊎ ((x y : Value) × (v ≡ VCons x y) × IsOf mode E c h.0 x × IsOf mode E c (TList h.0) y) → Agree PNil c ws v
        by (inl s) = subst (Agree PNil c ws) (sym s.1) refl
        by (inr s) = subst (Agree PNil c ws) (sym s.2) refl
    fit_same (PCons p q) v ws c A Us k h = by (λ x i. fit_same p x ws c h.0 h.1 i h.4) (λ y us i. fit_same q y us c (TList h.0) h.2 i h.5) (shape mode E v c A (TList h.0) h.3 k)
      where
        by : ((x : Value) → IsOf mode E c h.0 x → Agree p c ws x) → ((y : Value) (us : Written) → IsOf mode E c (TList h.0) y → Agree q c us y) → ((B : Typ) × (v ≡ VNil B)) ⊎ ((x y : Value) × (v ≡ VCons x y) × IsOf mode E c h.0 x × IsOf mode E c (TList h.0) y) → Agree (PCons p q) c ws v
        by f g (inl s) = subst (Agree (PCons p q) c ws) (sym s.1) refl
        by f g (inr s) = subst (Agree (PCons p q) c ws) (sym s.2) (then_bound c (fit q s.1) (b.fit q (bare_value c s.1)) (fit p s.0 ws) _ (f s.0 s.3) (λ us. g s.1 us s.4))
    fit_same PAbsent v ws c A Us k h = by (shape mode E v c A (TOpt h.0) h.1 k)
      where
        by : ((B : Typ) × (v ≡ VAbsent B)) ⊎ ((x : Value) × (v ≡ VPresent x) × IsOf mode E c h.0 x) → Agree PAbsent c ws v
        by (inl s) = subst (Agree PAbsent c ws) (sym s.1) refl
        by (inr s) = subst (Agree PAbsent c ws) (sym s.1) refl
    fit_same (PPresent p) v ws c A Us k h = by (λ x i. fit_same p x ws c h.0 Us i h.2) (shape mode E v c A (TOpt h.0) h.1 k)
      where
        by : ((x : Value) → IsOf mode E c h.0 x → Agree p c ws x) → ((B : Typ) × (v ≡ VAbsent B)) ⊎ ((x : Value) × (v ≡ VPresent x) × IsOf mode E c h.0 x) → Agree (PPresent p) c ws v
        by f (inl s) = subst (Agree (PPresent p) c ws) (sym s.1) refl
        by f (inr s) = subst (Agree (PPresent p) c ws) (sym s.1) (f s.0 s.2)
    fit_same (PExn n) v ws c A Us k h = let s = shape mode E v c A TExn h.0 k in subst (Agree (PExn n) c ws) (sym s.2) (by s.0 s.1)
      where
        by : (j : ℕ) (o : Option Bytes) → Agree (PExn n) c ws (VExn j o)
        by j None = given_bound c (nat_eq n j) (Some ws) (Some (bare_env c ws)) refl
        by j (Some x) = refl
    fit_same (PExnOf n p) v ws c A Us k h = let s = shape mode E v c A TExn h.0 k in subst (Agree (PExnOf n p) c ws) (sym s.2) (by (λ x. fit_same p (VStr x) ws c TStr Us refl h.1) s.0 s.1)
      where
        by : ((x : Bytes) → Agree p c ws (VStr x)) → (j : ℕ) (o : Option Bytes) → Agree (PExnOf n p) c ws (VExn j o)
        by f j None = refl
        by f j (Some x) = given_bound c (nat_eq n j) (fit p (VStr x) ws) _ (f x)

    all_fit_same : (ps : Patterns) (vs : Values) (ws : Written) (c : Home) (As : Typs) (Us : List Typ) → ValuesTyped mode E vs c As → AllFit mode E ps c As Us → b.fit_all ps (bare_values c vs) (bare_env c ws) ≡ bound c (fit_all ps vs ws)
    all_fit_same no_patterns no_values ws c As Us k h = refl
    all_fit_same (pattern' p ps) (value v vs) ws c As Us k h =
        let a = k.2 in
        let d = h.4 in
        let s : k.0 ≡ h.0 = cc in
        let r : k.1 ≡ h.1 = cc in
        then_bound c (fit_all ps vs) (b.fit_all ps (bare_values c vs)) (fit p v ws) _ (fit_same p v ws c h.0 h.2 (subst (λ X. IsOf mode E c X v) s k.3) h.5) (λ us. all_fit_same ps vs us c h.1 h.3 (subst (λ X. ValuesTyped mode E vs c X) r k.4) h.6)
    all_fit_same no_patterns (value v vs) ws c As Us k h = refl
    all_fit_same (pattern' p ps) no_values ws c As Us k h = refl

-- across a bracket
across_same : (mode : Mode) (T : Typ) (x y : Home) (v : Value) (z : World) → Same (bare_value y) (across mode T x y v z) (Fine (bare_value x v) z)
across_same mode T x y v z = lift_same (bare_value y) (crossing mode z.environment T x y v) (Got (bare_value x v)) z (cross_same mode z.environment T x y v)

module _ (arrives : Arrives) (mode : Mode) where
  abbrev sees : World → Home → Typ → Typ
  sees z c T = as_seen mode z.environment c T

  abbrev Alike : Home → Result Value → Result BareValue → Type 0
  Alike c r s = Same (bare_value c) r s

  abbrev Here : World → Home → Type 0
  Here z c = At arrives mode z c

  -- packing, and arrival
  marshal_same : (m v : Value) (c : Home) (A T : Typ) (z : World) → Of mode c T z.environment v → Alike c (full.marshals c A m v z) (lean.marshals A (bare_value c m) (bare_value c v) z)
  marshal_same (VStr m) v c A T z h = subst (λ p. Alike c (full.marshals c A (VStr m) v z) (packed_as WStr (packing z A m p) z)) (sym (packed_alike mode z.environment v c T A h)) (by (packing z A m (packed z.environment c v A)))
    where
      by : (p : Packing) → Alike c (packed_as VStr p z) (packed_as WStr p z)
      by (CannotPack x) = refl
      by (Packs s) = refl
  marshal_same _ v c A T z h = tt

  unmarshal_same : (s : Value) (c : Home) (A : Typ) (z : World) → Here z c → Known mode z.environment A → Alike c (full.unmarshals mode c A s z) (lean.unmarshals c A (bare_value c s) z)
  unmarshal_same (VStr s) c A z i k = by (arrival z c A s) refl
    where
      by : (a : Arrival) → arrival z c A s ≡ a → Alike c (arrived_as (λ v w. v mode) a (with_crossing (Read s) z)) (arrived_as (λ v w. w) a (with_crossing (Read s) z))
      by (Unfit x) q = refl
      by (Brings F v w) q = ap (λ x. Fine x (grown F (with_crossing (Read s) z))) (sym (arrives.alike mode z c A s F v w i.0 i.1 k q))
  unmarshal_same _ c A z i k = tt

  module _ (N : ℕ) (next : Expr → Home → Written → M Value) (next' : Bare → Home → BareWritten → M BareValue) (go : (t : Expr) (c : Home) (G : List Typ) (T : Typ) (us : Written) (z : World) → Here z c → WrittenTyped mode z.environment us c G → Typed mode z.environment t c G T → Good arrives mode z c T (next t c us z)) (same : (t : Expr) (c : Home) (G : List Typ) (T : Typ) (us : Written) (z : World) → Here z c → WrittenTyped mode z.environment us c G → Typed mode z.environment t c G T → Alike c (next t c us z) (next' (bare_term c t) c (bare_env c us) z)) where
    abbrev apps : Home → Value → Value → M Value
    apps c v w = calling mode v N next c w

    abbrev bare_apps : BareValue → BareValue → M BareValue
    bare_apps v w = lean.calling v N next' w

    allowed : (t : Bool) (c : Home) (r : Result Value) (s : Result BareValue) (z : World) → Alike c r s → Alike c (cond t r (Spending z)) (cond t s (Spending z))
    allowed true c r s z h = h
    allowed false c r s z h = refl

    call_same : (v : Value) (c : Home) (w : Value) (A B : Typ) (z : World) → Here z c → Of mode c (TFun A B) z.environment v → Of mode c A z.environment w → Alike c (calling mode v N next c w z) (lean.calling (bare_value c v) N next' (bare_value c w) z)
    call_same (VLam S e) c w A B z i h k =
        let d = h.1 in
        let a : A ≡ sees z c S = cc in
        let one : WrittenTyped mode z.environment ((S, w) ∷ []) c (sees z c S ∷ []) = ([], refl, subst (λ X. Of mode c X z.environment w) a k, refl, h.3) in
        allowed (nat_lt z.made N) c _ _ z (same e c (sees z c S ∷ []) h.0 ((S, w) ∷ []) (counted z) i one h.2)
    call_same (VRec S R e) c w A B z i h k =
        let d = h.0 in
        let a : A ≡ sees z c S = cc in
        let self = VRec S R e in
        let both : Known mode z.environment (TFun S R) = all_append (is_known z.environment) (mentions S) (mentions R) h.2 h.3 in
        let two : WrittenTyped mode z.environment ((S, w) ∷ (TFun S R, self) ∷ []) c (sees z c S ∷ TFun (sees z c S) (sees z c R) ∷ []) =
        (TFun (sees z c S) (sees z c R) ∷ [], refl, subst (λ X. Of mode c X z.environment w) a k, ([], ap (λ X. X ∷ []) (sym (seen_fun z.environment mode c S R)), (seen_fun z.environment mode c S R, h.1, h.2, h.3), refl, both), h.2) in
        allowed (nat_lt z.made N) c _ _ z (same e c (sees z c S ∷ TFun (sees z c S) (sees z c R) ∷ []) (sees z c R) ((S, w) ∷ (TFun S R, self) ∷ []) (counted z) i two h.1)
    call_same (VProxy x S T f) c w A B z i h k =
        let d = h.0 in
        let a : A ≡ sees z c S = cc in
        let j : Here z x = (i.0, h.4) in
        same_after (bare_value x) (bare_value c) (follow (across mode S c x w) (λ u. calling mode f N next x u) z) (lean.calling (bare_value x f) N next' (bare_value c w) z) (λ y. across mode T x c y)
        (typed_before z.environment (Of mode x (sees z x S)) (bare_value x) (bare_value x) (across mode S c x w z) (bare_value c w) z (λ u. calling mode f N next x u) (lean.calling (bare_value x f) N next' (bare_value c w) z)
        (across_ok arrives mode S c x w z h.1 i (subst (λ X. Of mode c X z.environment w) a k)) (across_same mode S c x w z)
        (λ u g p e. subst (λ y. Alike x (calling mode f N next x u z) (lean.calling (bare_value x f) N next' y z)) e (call_same f x u (sees z x S) (sees z x T) z j h.3 p)))
        (λ y z. across_same mode T x c y z)
    call_same v c w A B z i h k = absurd (true≢false (sym (callable arrives mode z.environment v c A B h)))

    -- what a typed term comes to has its type
    is_sound : (t : Expr) (c : Home) (G : List Typ) (T : Typ) (us : Written) (z : World) → Here z c → WrittenTyped mode z.environment us c G → Typed mode z.environment t c G T → Good arrives mode z c T (eval mode t apps c us z)
    is_sound = sound arrives mode N next go

    -- a part of type U, and then what follows its value
    and : (t : Expr) (c : Home) (G : List Typ) (U : Typ) (us : Written) (z : World) (k : Home) (f : Value → M Value) (g : BareValue → M BareValue) → Here z c → WrittenTyped mode z.environment us c G → Typed mode z.environment t c G U → Alike c (eval mode t apps c us z) (lean.eval (bare_term c t) bare_apps c (bare_env c us) z) →
        ((v : Value) (y : World) → Grows z.environment y.environment → Of mode c U y.environment v → Alike k (f v y) (g (bare_value c v) y)) → Alike k (then' (eval mode t apps c us z) f raise) (then' (lean.eval (bare_term c t) bare_apps c (bare_env c us) z) g raise)
    and t c G U us z k f g i e h s go = same_typed z.environment (Of mode c U) (bare_value c) (bare_value k) (eval mode t apps c us z) (lean.eval (bare_term c t) bare_apps c (bare_env c us) z) f g (is_sound t c G U us z i e h) s go

    mutual
      alike : (t : Expr) (c : Home) (G : List Typ) (T : Typ) (us : Written) (z : World) → Here z c → WrittenTyped mode z.environment us c G → Typed mode z.environment t c G T → Alike c (eval mode t apps c us z) (lean.eval (bare_term c t) bare_apps c (bare_env c us) z)
      alike (Int n) c G T us z i e h = refl
      alike (Boolean k) c G T us z i e h = refl
      alike (Str s) c G T us z i e h = refl
      alike Unit' c G T us z i e h = refl
      alike (Exn x) c G T us z i e h = refl
      alike (ExnOf x t) c G T us z i e h = and t c G TStr us z c _ _ i e h.1 (alike t c G TStr us z i e h.1) (λ v y g p. lift_same (bare_value c) (full.with_text x v) (lean.with_text x (bare_value c v)) y (text_same c x v))
      alike (Tuple ts) c G T us z i e h = same_seq (bare_values c) (bare_value c) (eval_all mode ts apps c us z) (lean.eval_all (bare_all c ts) bare_apps c (bare_env c us) z) _ _ (all_alike ts c G h.0 us z i e h.2) (λ ws z. refl)
      alike (Nil A) c G T us z i e h = refl
      alike (Empty A) c G T us z i e h = refl
      alike (Present t) c G T us z i e h = and t c G h.0 us z c _ _ i e h.2 (alike t c G h.0 us z i e h.2) (λ v y g p. refl)
      alike (Cons x t) c G T us z i e h =
          and x c G h.0 us z c _ _ i e h.2 (alike x c G h.0 us z i e h.2)
          (λ v y g p.
          let l = later arrives mode z y g c i in
          let w = written_later arrives mode z y g c i us G e in
          let q = term_later arrives mode z y g c i t G (TList h.0) h.3 in
          and t c G (TList h.0) us y c _ _ l w q (alike t c G (TList h.0) us y l w q) (λ u x f r. refl))
      alike (Var j) c G T us z i e h = found_same c us j z
      alike (Own f) c G T us z i e h = lift_same (bare_value c) (own_by mode z.environment (full.opened mode z.environment) c f) (lean.own_by (lean.opened z.environment) c f) z (own_value_same mode z.environment c f)
      alike (Ref j x) c G T us z i e h =
          lift_same (bare_value c) (ref_by mode z.environment (full.opened mode z.environment) c j (route z.environment j x)) (lean.ref_by (lean.opened z.environment) (target z.environment j x)) z (ref_value_same mode z.environment c j x)
      alike (Lam A t) c G T us z i e h = ap (λ x. Fine (WLam c A x) z) (sym (bare-inst t c 1 us))
      alike (Rec A B t) c G T us z i e h = ap (λ x. Fine (WRec c A B x) z) (sym (bare-inst t c 2 us))
      alike (App f t) c G T us z i e h =
          and f c G (TFun h.0 T) us z c _ _ i e h.1 (alike f c G (TFun h.0 T) us z i e h.1)
          (λ v y g p.
          let l = later arrives mode z y g c i in
          let w = written_later arrives mode z y g c i us G e in
          let q = term_later arrives mode z y g c i t G h.0 h.2 in
          and t c G h.0 us y c _ _ l w q (alike t c G h.0 us y l w q) (λ u x k r. call_same v c u h.0 T x (later arrives mode y x k c l) (value_later arrives mode y x k c l v (TFun h.0 T) p) r))
      alike (Let A t b) c G T us z i e h =
          and t c G (sees z c A) us z c _ _ i e h.0 (alike t c G (sees z c A) us z i e h.0)
          (λ v y g p.
          let s = seen_later arrives mode z y g c i A h.2 in
          alike b c (sees z c A ∷ G) T ((A, v) ∷ us) y (later arrives mode z y g c i)
          (G, ap (λ X. X ∷ G) s, subst (λ X. Of mode c X y.environment v) s p, written_later arrives mode z y g c i us G e, known_later arrives mode z y g c i A h.2) (term_later arrives mode z y g c i b (sees z c A ∷ G) T h.1))
      alike (If t a b) c G T us z i e h =
          and t c G TBool us z c _ _ i e h.0 (alike t c G TBool us z i e h.0)
          (λ v y g p.
          let l = later arrives mode z y g c i in
          let w = written_later arrives mode z y g c i us G e in
          branch_same c v _ _ _ _ y (alike a c G T us y l w (term_later arrives mode z y g c i a G T h.1)) (alike b c G T us y l w (term_later arrives mode z y g c i b G T h.2)))
      alike (Seq no_exprs) c G T us z i e h = tt
      alike (Seq (expr t ts)) c G T us z i e h =
          and t c G h.1.0 us z c _ _ i e h.1.3 (alike t c G h.1.0 us z i e h.1.3)
          (λ v y g p. rest_alike ts c G h.1.1 us v y (later arrives mode z y g c i) (written_later arrives mode z y g c i us G e) (terms_later arrives mode z y g c i ts G h.1.1 h.1.4))
      alike (Match t arms) c G T us z i e h =
          and t c G h.0 us z c _ _ i e h.1 (alike t c G h.0 us z i e h.1)
          (λ v y g p. arms_alike arms c G h.0 T us v match_failure_exn y (later arrives mode z y g c i) (written_later arrives mode z y g c i us G e) (arms_later arrives mode z y g c i arms G h.0 T h.2) p)
      alike (Try t arms) c G T us z i e h =
          handled_same z.environment (Of mode c T) (bare_value c) (eval mode t apps c us z) (lean.eval (bare_term c t) bare_apps c (bare_env c us) z) _ _ (is_sound t c G T us z i e h.0) (alike t c G T us z i e h.0)
          (λ x y g. arms_alike arms c G TExn T us (exception_value x) x y (later arrives mode z y g c i) (written_later arrives mode z y g c i us G e) (arms_later arrives mode z y g c i arms G TExn T h.1) refl)
      alike (Raise A t) c G T us z i e h = and t c G TExn us z c _ _ i e h.1 (alike t c G TExn us z i e h.1) (λ v y g p. throw_same c v y)
      alike (Prim k ts) c G T us z i e h = same_seq (bare_values c) (bare_value c) (eval_all mode ts apps c us z) (lean.eval_all (bare_all c ts) bare_apps c (bare_env c us) z) _ _ (all_alike ts c G h.0 us z i e h.1) (λ ws z. primitive_same c k ws z)
      alike (Marshal A m t) c G T us z i e h =
          and m c G TStr us z c _ _ i e h.1 (alike m c G TStr us z i e h.1)
          (λ v y g p.
          let l = later arrives mode z y g c i in
          let w = written_later arrives mode z y g c i us G e in
          let q = term_later arrives mode z y g c i t G (sees z c A) h.2 in
          and t c G (sees z c A) us y c _ _ l w q (alike t c G (sees z c A) us y l w q) (λ u x k r. marshal_same v u c A (sees z c A) x r))
      alike (Unmarshal A t) c G T us z i e h =
          and t c G TStr us z c _ _ i e h.1 (alike t c G TStr us z i e h.1) (λ v y g p. unmarshal_same v c A y (later arrives mode z y g c i) (known_later arrives mode z y g c i A h.2))
      alike (Val A v) c G T us z i e h = absurd h
      alike (Evaluated A v) c G T us z i e h = refl
      alike (Bracket x A t) c G T us z i e h = same_after (bare_value x) (bare_value c) (eval mode t apps x [] z) (lean.eval (bare_term x t) bare_apps x [] z) (λ v. across mode A x c v) (alike t x [] (sees z x A) [] z (i.0, h.3) refl h.2) (λ v z. across_same mode A x c v z)

      all_alike : (ts : Exprs) (c : Home) (G : List Typ) (Ts : Typs) (us : Written) (z : World) → Here z c → WrittenTyped mode z.environment us c G → AllTyped mode z.environment ts c G Ts → Same (bare_values c) (eval_all mode ts apps c us z) (lean.eval_all (bare_all c ts) bare_apps c (bare_env c us) z)
      all_alike no_exprs c G Ts us z i e h = refl
      all_alike (expr t ts) c G Ts us z i e h =
          same_typed z.environment (Of mode c h.0) (bare_value c) (bare_values c) (eval mode t apps c us z) (lean.eval (bare_term c t) bare_apps c (bare_env c us) z) _ _ (is_sound t c G h.0 us z i e h.3) (alike t c G h.0 us z i e h.3)
          (λ v y g p.
          same_seq (bare_values c) (bare_values c) (eval_all mode ts apps c us y) (lean.eval_all (bare_all c ts) bare_apps c (bare_env c us) y) _ _
          (all_alike ts c G h.1 us y (later arrives mode z y g c i) (written_later arrives mode z y g c i us G e) (terms_later arrives mode z y g c i ts G h.1 h.4)) (λ ws z. refl))

      rest_alike : (ts : Exprs) (c : Home) (G : List Typ) (Us : Typs) (us : Written) (v : Value) (z : World) → Here z c → WrittenTyped mode z.environment us c G → AllTyped mode z.environment ts c G Us → Alike c (eval_rest mode ts apps c us v z) (lean.eval_rest (bare_all c ts) bare_apps c (bare_env c us) (bare_value c v) z)
      rest_alike no_exprs c G Us us v z i e h = refl
      rest_alike (expr t ts) c G Us us v z i e h =
          and t c G h.0 us z c _ _ i e h.3 (alike t c G h.0 us z i e h.3) (λ w y g p. rest_alike ts c G h.1 us w y (later arrives mode z y g c i) (written_later arrives mode z y g c i us G e) (terms_later arrives mode z y g c i ts G h.1 h.4))

      arms_alike : (arms : Arms) (c : Home) (G : List Typ) (A T : Typ) (us : Written) (v : Value) (x : Exception) (z : World) → Here z c → WrittenTyped mode z.environment us c G → ArmsTyped mode z.environment arms c G A T → Of mode c A z.environment v →
          Alike c (eval_arms mode arms apps c us v (raise x) z) (lean.eval_arms (bare_arms c arms) bare_apps c (bare_env c us) (bare_value c v) (raise x) z)
      arms_alike no_arms c G A T us v x z i e h p = refl
      arms_alike (arm q t rest) c G A T us v x z i e h p =
          fitted_same c (fit q v us) _ _ _ _ _ z (fit_same mode z.environment q v us c A h.0 p h.1) (λ ws o. alike t c (h.0 ++ G) T ws z i (fit_typed mode z.environment q v us ws c A G h.0 o p h.1 e) h.2) (arms_alike rest c G A T us v x z i e h.3 p)

  pub depth_alike : (N k : ℕ) (t : Expr) (c : Home) (G : List Typ) (T : Typ) (us : Written) (z : World) → Here z c → WrittenTyped mode z.environment us c G → Typed mode z.environment t c G T → Alike c (depth mode N k t c us z) (lean.depth N k (bare_term c t) c (bare_env c us) z)
  depth_alike N zero = alike N full.no_more lean.no_more (λ t c G T us z i e h. tt) (λ t c G T us z i e h. tt)
  depth_alike N (suc k) = alike N (depth mode N k) (lean.depth N k) (depth_sound arrives mode N k) (depth_alike N k)
