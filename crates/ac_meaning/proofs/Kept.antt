-- Typing is kept by each step, and what is typed has a step.
use Rattle.std.proofs.Common.{◌≡◌, refl, sym, ap, ◌∙◌, subst, ℕ, Bool, true, false, nat_lt, cond, List, [], ◌∷◌, ◌++◌, Option, Some, None, ◌⊎◌, inl, inr}
use Rattle.std.specs.Prelude.{option_map, is_some, slice_get}
use Rattle.std.specs.List.{list_all}
use Rattle.std.specs.Option.{option_or}
use mathlib.Core.Bool.{true≢false}
use Rattle.ac_types.proofs.Same.{and_true, bytes_refl}
use Rattle.ac_types.proofs.FirstLaws.{none≢some, some_eq}
use Rattle.ac_types.specs.Types.{Bytes, Typ, TInt, TBool, TStr, TUnit, TExn, TTuple, TList, TOpt, TFun, TAbs, TMine, Typs, no_types, typ, mentions, mentions_of_all}
use Rattle.ac_terms.specs.Terms.{Home, Main, In, Pattern, Expr, Int, Boolean, Str, Unit', Exn, ExnOf, Tuple, Nil, Empty, Present, Cons, Var, Own, Ref, Lam, Rec, App, Let, If, Seq, Match, Try, Raise, Prim, Marshal, Unmarshal, Val, Evaluated, Bracket, Exprs, no_exprs, expr, Arms, no_arms, arm, Value, VInt, VBool, VStr, VUnit, VExn, VTuple, VNil, VCons, VAbsent, VPresent, VLam, VRec, VProxy, VSeal, Values, value}
use Rattle.ac_terms.specs.Defs.{Environment, Field}
use Rattle.ac_code.specs.Constants.{Const, CInt, CBool, CStr, CUnit, CPart, PrimitiveAnswer, Yields, Prints, Sends, Receives, Fails, NoSense, meaning}
use Rattle.ac_rules.specs.Plain.{packed}
use Rattle.ac_rules.specs.Views.{Mode, Coloured, opens, representation, view, is_known}
use Rattle.ac_rules.specs.Typing.{all_of, fields_of}
use Rattle.ac_rules.specs.Coherent.{IsCoherent}
use Rattle.ac_terms.proofs.AllLaws.{all_left, all_right, all_append}
use Rattle.ac_meaning.specs.Worlds.{Exception, World, match_failure_exn, end_of_file_exn, bad_frame, counted, fresh, Read, with_crossing}
use Rattle.ac_rules.specs.Growth.{Grows}
use Rattle.ac_outside.specs.Frames.{Frame, Whole, Bad, AtEnd, next_frame}
use Rattle.ac_meaning.specs.Acts.{Act, Is, Goes, Turns, Applies, Raises, Wrong, becomes, or_raises, within, part, Spent, State, At, Over, after}
use Rattle.ac_meaning.specs.Substitution.{Written, inst}
use Rattle.ac_meaning.specs.Matching.{fit, chosen}
use Rattle.ac_meaning.specs.PrimitiveSteps.{spelled, primitive, answer_at, answered, sending, receiving, exception_of, exception_value, thrown}
use Rattle.ac_meaning.specs.Brackets.{enclosed, all_enclosed, is_function_value, inside_seal, unsealed_term, at_name, bracket_step}
use Rattle.ac_meaning.specs.References.{own_field, referred, Route, Nowhere, Once, Twice, route, routed}
use Rattle.ac_meaning.specs.Packing.{Packing, CannotPack, Packs, packs, packing, Arrival, Unfit, Brings, arrival, brings, raising, marshal_step, unmarshal_step}
use Rattle.ac_meaning.specs.Reduction.{apply, branch, look, look_all, look_main, step}
use Rattle.ac_meaning.specs.Laws.{IsTypedProgram}
use Rattle.ac_meaning.specs.Typed.{as_seen, Known, IsHome, IsLast, own_type, Fits, Typed, AllTyped, ArmsTyped, ValueTyped, ValuesTyped, WrittenTyped}
use Rattle.ac_meaning.proofs.Arrivals.{Arrives}
use Rattle.ac_rules.proofs.Growth.{grows_not, known_more, home_more, view_same}
use Rattle.ac_meaning.proofs.GrowthTyped.{typed_more, all_typed_more, arms_typed_more}
use Rattle.ac_meaning.proofs.Homes.{all_seen, seen_tuple, seen_list, seen_opt, seen_fun, seen_int, seen_bool, seen_str, seen_unit, seen_exn, seen_mine, view_shut, represented, representation_known, view_open, view_again}
use Rattle.ac_meaning.proofs.KnownNames.{known_types, fields_typed}
use Rattle.ac_meaning.proofs.FromTypes.{typed_from}
use Rattle.ac_meaning.proofs.LinkTypes.{coherent-Links}
use Rattle.ac_meaning.proofs.Shapes.{shape, values_shape, no_values_shape, inst_typed, fit_typed}
use Rattle.ac_meaning.proofs.Sound.{IsLinked, own_home, value_home}
use Rattle.ac_meaning.proofs.Safe.{AnswerOf, prim_ok, consts_ok}
use Rattle.ac_meaning.specs.TypedStates.{IsTyped}

-- what is next is no fault, and what it comes to is typed over the definitions then
abbrev pub ActOk : {S A : Type 0} → Environment → (Environment → S → Type 0) → (Environment → A → Type 0) → Act S A → Type 0
ActOk E P Q (Is v) = Q E v
ActOk E P Q (Goes s) = P E s
ActOk E P Q (Turns z s) = Grows E z.environment × P z.environment s
ActOk E P Q (Applies s) = P E s
ActOk E P Q (Raises x) = Unit {0}
ActOk E P Q Wrong = ⊥

within_ok : {S T A B : Type 0} (E : Environment) (P : Environment → S → Type 0) (P' : Environment → T → Type 0) (Q : Environment → A → Type 0) (Q' : Environment → B → Type 0) (wrap : S → T) (done : A → Act T B) (catch : Exception → Act T B) (a : Act S A) → IsCoherent E → ActOk E P Q a → ((F : Environment) (s : S) → Grows E F → P F s → P' F (wrap s)) → ((v : A) → Q E v → ActOk E P' Q' (done v)) → ((x : Exception) → ActOk E P' Q' (catch x)) → ActOk E P' Q' (within wrap done catch a)
within_ok E P P' Q Q' wrap done catch (Is v) i h w k x = k v h
within_ok E P P' Q Q' wrap done catch (Goes s) i h w k x = w E s (grows_not E i) h
within_ok E P P' Q Q' wrap done catch (Turns z s) i h w k x = (h.0, w z.environment s h.0 h.1)
within_ok E P P' Q Q' wrap done catch (Applies s) i h w k x = w E s (grows_not E i) h
within_ok E P P' Q Q' wrap done catch (Raises y) i h w k x = x y
within_ok E P P' Q Q' wrap done catch Wrong i h w k x = h

no_field : (o : Option Field) (A : Typ) → option_map (λ (x : Field). x.term) o ≡ None → option_map (λ (x : Field). x.ty) o ≡ Some A → ⊥
no_field None A p e = none≢some e
no_field (Some x) A p e = none≢some (sym p)

module _ (arrives : Arrives) (mode : Mode) where
  abbrev TermOf : Home → Typ → Environment → Expr → Type 0
  TermOf c T E e = Typed mode E e c [] T

  abbrev ValueOf : Home → Typ → Environment → Value → Type 0
  ValueOf c T E v = ValueTyped mode E v c T

  abbrev TermsOf : Home → Typs → Environment → Exprs → Type 0
  TermsOf c Ts E es = AllTyped mode E es c [] Ts

  abbrev ValuesOf : Home → Typs → Environment → Values → Type 0
  ValuesOf c Ts E vs = ValuesTyped mode E vs c Ts

  module _ (z : World) (coherent : IsCoherent z.environment) where
    abbrev E : Environment
    E = z.environment

    abbrev Good : Home → Typ → Act Expr Value → Type 0
    Good c T a = ActOk E (TermOf c T) (ValueOf c T) a

    abbrev AllGood : Home → Typs → Act Exprs Values → Type 0
    AllGood c Ts a = ActOk E (TermsOf c Ts) (ValuesOf c Ts) a

    abbrev sees : Home → Typ → Typ
    sees c T = as_seen mode E c T

    abbrev AtHome : Home → Type 0
    AtHome c = IsHome mode E c

    abbrev IsKnown : Typ → Type 0
    IsKnown T = Known mode E T

    -- parts stay typed where the definitions grow
    more : (F : Environment) (c : Home) → AtHome c → Grows E F → (e : Expr) (G : List Typ) (T : Typ) → Typed mode E e c G T → Typed mode F e c G T
    more F c i g e G T h = typed_more mode E F g.extends e c G T i h

    all_more : (F : Environment) (c : Home) → AtHome c → Grows E F → (es : Exprs) (Ts : Typs) → AllTyped mode E es c [] Ts → AllTyped mode F es c [] Ts
    all_more F c i g es Ts h = all_typed_more mode E F g.extends es c [] Ts i h

    arms_more : (F : Environment) (c : Home) → AtHome c → Grows E F → (arms : Arms) (A T : Typ) → ArmsTyped mode E arms c [] A T → ArmsTyped mode F arms c [] A T
    arms_more F c i g arms A T h = arms_typed_more mode E F g.extends arms c [] A T i h

    know_more : (F : Environment) → Grows E F → (A : Typ) → IsKnown A → Known mode F A
    know_more F g A h = known_more E F g.extends A h

    sees_more : (F : Environment) (c : Home) → AtHome c → Grows E F → (A : Typ) → IsKnown A → sees c A ≡ as_seen mode F c A
    sees_more F c i g A k = sym (view_same E F g.extends mode c A i k)

    at_more : (F : Environment) (c : Home) → AtHome c → Grows E F → (A : Typ) → IsKnown A → (e : Expr) → Typed mode F e c [] (sees c A) → Typed mode F e c [] (as_seen mode F c A)
    at_more F c i g A k e h = subst (λ X. Typed mode F e c [] X) (sees_more F c i g A k) h

    -- a part at type A in the whole at type T
    one_part : (c : Home) (A T : Typ) (wrap : Expr → Expr) (done : Value → Act Expr Value) (a : Act Expr Value) → Good c A a → ((F : Environment) (s : Expr) → Grows E F → Typed mode F s c [] A → Typed mode F (wrap s) c [] T) → ((v : Value) → ValueTyped mode E v c A → Good c T (done v)) → Good c T (part wrap done a)
    one_part c A T wrap done a h w k = within_ok E (TermOf c A) (TermOf c T) (ValueOf c A) (ValueOf c T) wrap done Raises a coherent h w k (λ x. tt)

    -- a type of a constant is seen as itself
    const_at : (c : Home) (T U : Typ) (v : Value) → sees c T ≡ U → IsKnown T → ValueTyped mode E v c U → Good c (sees c T) (Goes (Evaluated T v))
    const_at c T U v e k h = (refl, subst (λ X. ValueTyped mode E v c X) (sym e) h, k)

    text_ok : (c : Home) (k : ℕ) (v : Value) (T : Typ) → T ≡ TExn → ValueTyped mode E v c TStr → Good c T (exception_of k v)
    text_ok c k v T e h = let s = shape mode E v c TStr TStr refl h in subst (λ x. Good c T (exception_of k x)) (sym s.1) e

    throw_ok : (c : Home) (v : Value) (T : Typ) → ValueTyped mode E v c TExn → Good c T (thrown v)
    throw_ok c v T h = let s = shape mode E v c TExn TExn refl h in subst (λ x. Good c T (thrown x)) (sym s.2) tt

    branch_ok : (c : Home) (v : Value) (a b : Expr) (T : Typ) → ValueTyped mode E v c TBool → Typed mode E a c [] T → Typed mode E b c [] T → Good c T (branch v a b)
    branch_ok c v a b T h p q = let s = shape mode E v c TBool TBool refl h in subst (λ x. Good c T (branch x a b)) (sym s.1) (by s.0)
      where
        by : (x : Bool) → Good c T (branch (VBool x) a b)
        by true = p
        by false = q

    -- arms
    arm_ok : (c : Home) (p : Pattern) (t : Expr) (v : Value) (A T : Typ) (Us : List Typ) (o : Option Written) (rest : Option Expr) (x : Exception) → fit p v [] ≡ o → ValueTyped mode E v c A → Fits mode E p c A Us → Typed mode E t c (Us ++ []) T → Good c T (or_raises x rest) → Good c T (or_raises x (option_or (option_map (λ ws. inst 0 ws t) o) rest))
    arm_ok c p t v A T Us None rest x q h f k r = r
    arm_ok c p t v A T Us (Some ws) rest x q h f k r = inst_typed mode E t c [] (Us ++ []) T ws 0 refl (fit_typed mode E p v [] ws c A [] Us q h f refl) k

    chosen_ok : (c : Home) (arms : Arms) (v : Value) (A T : Typ) (x : Exception) → ArmsTyped mode E arms c [] A T → ValueTyped mode E v c A → Good c T (or_raises x (chosen arms v))
    chosen_ok c no_arms v A T x h k = tt
    chosen_ok c (arm p t rest) v A T x h k = arm_ok c p t v A T h.0 (fit p v []) (chosen rest v) x refl k h.1 h.2 (chosen_ok c rest v A T x h.3 k)

    -- primitives
    spelled_ok : (k : Const) (c : Home) (T : Typ) → AnswerOf T (Yields k) → Typed mode E (spelled k) c [] T
    spelled_ok (CInt n) c T h = h
    spelled_ok (CBool b) c T h = h
    spelled_ok (CStr s) c T h = h
    spelled_ok CUnit c T h = h
    spelled_ok (CPart s i n) c T h = (typ TStr (typ TInt (typ TInt no_types)), h, (TStr, typ TInt (typ TInt no_types), refl, refl, (TInt, typ TInt no_types, refl, refl, (TInt, no_types, refl, refl, refl))))

    sent_ok : (b : Bool) (s : Bytes) (c : Home) (T : Typ) → T ≡ TUnit → Good c T (sending spelled b s z)
    sent_ok true s c T h = (grows_not E coherent, h)
    sent_ok false s c T h = tt

    raising_ok : (x : Exception) (c : Home) (T : Typ) → T ≡ TStr → Typed mode E (raising TStr x) c [] T
    raising_ok x c T h = (h ∙ sym (seen_str E mode c), (sym (seen_exn E mode c), refl, refl), refl)

    received_ok : (f : Frame) (c : Home) (T : Typ) → T ≡ TStr → Good c T (receiving spelled (raising TStr) f z)
    received_ok (Whole s rest) c T h = (grows_not E coherent, h)
    received_ok (Bad n got) c T h = (grows_not E coherent, raising_ok bad_frame c T h)
    received_ok AtEnd c T h = (grows_not E coherent, raising_ok end_of_file_exn c T h)

    answer_ok : (a : PrimitiveAnswer) (c : Home) (T : Typ) → AnswerOf T a → Good c T (answered spelled (raising TStr) z a)
    answer_ok (Yields k) c T h = spelled_ok k c T h
    answer_ok (Prints s) c T h = (grows_not E coherent, h)
    answer_ok (Sends s) c T h = sent_ok z.has_channel s c T h
    answer_ok Receives c T h = received_ok (next_frame z.input) c T h
    answer_ok (Fails k s) c T h = tt
    answer_ok NoSense c T h = absurd h

    -- a function
    apply_ok : (v : Value) (c : Home) (w : Value) (A T : Typ) → AtHome c → ValueTyped mode E v c (TFun A T) → ValueTyped mode E w c A → Good c T (apply c v w)
    apply_ok (VLam S e) c w A T i h k =
        let d = h.1 in
        let a : A ≡ sees c S = cc in
        let b : h.0 ≡ T = cc in
        let one : WrittenTyped mode E ((S, w) ∷ []) c (sees c S ∷ []) = ([], refl, subst (λ X. ValueTyped mode E w c X) a k, refl, h.3) in
        subst (λ X. Typed mode E (inst 0 ((S, w) ∷ []) e) c [] X) b (inst_typed mode E e c [] (sees c S ∷ []) h.0 ((S, w) ∷ []) 0 refl one h.2)
    apply_ok (VRec S R e) c w A T i h k =
        let d = h.0 in
        let a : A ≡ sees c S = cc in
        let b : sees c R ≡ T = cc in
        let self = VRec S R e in
        let both : IsKnown (TFun S R) = all_append (is_known E) (mentions S) (mentions R) h.2 h.3 in
        let two : WrittenTyped mode E ((S, w) ∷ (TFun S R, self) ∷ []) c (sees c S ∷ TFun (sees c S) (sees c R) ∷ []) =
        (TFun (sees c S) (sees c R) ∷ [], refl, subst (λ X. ValueTyped mode E w c X) a k, ([], ap (λ X. X ∷ []) (sym (seen_fun E mode c S R)), (seen_fun E mode c S R, h.1, h.2, h.3), refl, both), h.2) in
        subst (λ X. Typed mode E (inst 0 ((S, w) ∷ (TFun S R, self) ∷ []) e) c [] X) b (inst_typed mode E e c [] (sees c S ∷ TFun (sees c S) (sees c R) ∷ []) (sees c R) ((S, w) ∷ (TFun S R, self) ∷ []) 0 refl two h.1)
    apply_ok (VProxy b S U f) c w A T i h k =
        let d = h.0 in
        let a : A ≡ sees c S = cc in
        let r : T ≡ sees c U = cc in
        let both : IsKnown (TFun S U) = all_append (is_known E) (mentions S) (mentions U) h.1 h.2 in
        let function : Typed mode E (Evaluated (TFun S U) f) b [] (TFun (sees b S) (sees b U)) = (sym (seen_fun E mode b S U), h.3, both) in
        let argument : Typed mode E (enclosed c S w) b [] (sees b S) = (refl, h.1, (refl, subst (λ X. ValueTyped mode E w c X) a k, h.1), i) in
        (r, h.2, (sees b S, function, argument), h.4)
    apply_ok v c w A T i h k = let s : is_function_value v ≡ true = shape mode E v c (TFun A T) (TFun A T) refl h in absurd (true≢false (sym s))

    -- fields
    own_ok : (c : Home) (f : ℕ) (A : Typ) (o : Option Expr) → own_field E c f ≡ o → own_type E c f ≡ Some A → Good c (sees c A) (becomes o)
    own_ok c f A None p e = absurd (no_field (slice_get (fields_of E c) f) A p e)
    own_ok Main f A (Some t) p e = absurd (none≢some e)
    own_ok (In j) f A (Some t) p e =
        let k = fields_typed E coherent mode j f t p in
        subst (λ X. Typed mode E t (In j) [] (sees (In j) X)) (some_eq (sym k.1 ∙ e)) k.2

    alike : (c : Home) (F A : Typ) → IsKnown F → IsKnown A → view Coloured E c F ≡ view Coloured E c A → sees c F ≡ sees c A
    alike c F A k l e = sym (view_again E coherent mode c F k) ∙ ap (sees c) e ∙ view_again E coherent mode c A l

    -- the term of a field in the brackets of the way
    enclosed_field : (m f : ℕ) (T F : Typ) (c : Home) (o : Option Expr) → own_field E (In m) f ≡ o → own_type E (In m) f ≡ Some F → IsKnown T → sees (In m) F ≡ sees (In m) T → (t : Expr) × (o ≡ Some t) × Typed mode E (Bracket (In m) T t) c [] (sees c T)
    enclosed_field m f T F c None p q k e = absurd (no_field (slice_get (fields_of E (In m)) f) F p q)
    enclosed_field m f T F c (Some t) p q k e =
        let i : Typed mode E t (In m) [] (sees (In m) F) = own_ok (In m) f F (Some t) p q in
        (t, refl, (refl, k, subst (λ X. Typed mode E t (In m) [] X) e i, own_home mode E coherent (In m) f F q))

    ref_ok : (c : Home) (j : ℕ) (A : Typ) → AtHome (In j) → IsKnown A → (way : Route) → IsLinked E j A way → Good c (sees c A) (becomes (routed E j way))
    ref_ok c j A o k Nowhere l = absurd l
    ref_ok c j A o k (Once m f T) l =
        let F = l.1.0 in
        let e : sees (In m) F ≡ sees (In m) T = alike (In m) F A ((known_types E coherent).own (In m) f F l.1.1) k l.1.2 ∙ ap (sees (In m)) (sym l.0) in
        let d = enclosed_field m f T F c (own_field E (In m) f) refl l.1.1 (subst IsKnown (sym l.0) k) e in
        subst (λ x. Good c (sees c A) (becomes (option_map (Bracket (In m) T) x))) (sym d.1) (subst (λ X. Typed mode E (Bracket (In m) T d.0) c [] (sees c X)) l.0 d.2)
    ref_ok c j A o k (Twice m f T S) l =
        let F = l.2.0 in
        let KF = (known_types E coherent).own (In m) f F l.2.1 in
        let inner : sees (In m) F ≡ sees (In m) S = sym (ap (sees (In m)) l.2.2 ∙ view_again E coherent mode (In m) F KF) in
        let outer : sees (In j) S ≡ sees (In j) T = ap (sees (In j)) (l.2.2 ∙ sym l.2.3) ∙ view_again E coherent mode (In j) A k ∙ ap (sees (In j)) (sym l.0) in
        let d = enclosed_field m f S F (In j) (own_field E (In m) f) refl l.2.1 l.1 inner in
        let t : Typed mode E (Bracket (In j) T (Bracket (In m) S d.0)) c [] (sees c T) = (refl, subst IsKnown (sym l.0) k, subst (λ X. Typed mode E (Bracket (In m) S d.0) (In j) [] X) outer d.2, o) in
        subst (λ x. Good c (sees c A) (becomes (option_map (λ e. Bracket (In j) T (Bracket (In m) S e)) x))) (sym d.1) (subst (λ X. Typed mode E (Bracket (In j) T (Bracket (In m) S d.0)) c [] (sees c X)) l.0 t)

    -- packing, and arrival
    marshal_ok : (c : Home) (m v : Value) (A T : Typ) → T ≡ TStr → ValueTyped mode E m c TStr → Good c T (marshal_step z c A m v)
    marshal_ok c m v A T e h = let s = shape mode E m c TStr TStr refl h in subst (λ x. Good c T (marshal_step z c A x v)) (sym s.1) (by (packing z A s.0 (packed z.environment c v A)))
      where
        by : (p : Packing) → Good c T (packs z p)
        by (CannotPack x) = tt
        by (Packs s) = (grows_not E coherent, e)

    unmarshal_ok : (c : Home) (v : Value) (A T : Typ) → AtHome c → ValueTyped mode E v c TStr → IsKnown A → T ≡ sees c A → Good c T (unmarshal_step mode z c A v)
    unmarshal_ok c v A T i h k e = let s = shape mode E v c TStr TStr refl h in subst (λ x. Good c T (unmarshal_step mode z c A x)) (sym s.1) (by s.0 (arrival z c A s.0) refl)
      where
        by : (x : Bytes) (a : Arrival) → arrival z c A x ≡ a → Good c T (brings mode (with_crossing (Read x) z) A a)
        by x (Unfit y) q = (grows_not E coherent, (e, (sym (seen_exn E mode c), refl, refl), k))
        by x (Brings F v w) q =
            let g = arrives.grows.grow z c A x F v w coherent q in
            (g, (e ∙ sees_more F c i g A k, subst (λ X. ValueTyped mode F (v mode) c X) (sym (e ∙ sees_more F c i g A k)) (arrives.typed mode z c A x F v w coherent i k q), know_more F g A k))

    -- brackets
    enclosed_ok : (b c : Home) (T : Typ) (v : Value) → AtHome b → IsKnown T → ValueTyped mode E v b (sees b T) → Typed mode E (enclosed b T v) c [] (sees c T)
    enclosed_ok b c T v i k h = (refl, k, (refl, h, k), i)

    all_enclosed_ok : (b c : Home) (Ts : Typs) (vs : Values) → AtHome b → list_all (is_known E) (mentions_of_all Ts) ≡ true → ValuesTyped mode E vs b (all_seen E mode b Ts) → (es : Exprs) × (all_enclosed b Ts vs ≡ Some es) × AllTyped mode E es c [] (all_seen E mode c Ts)
    all_enclosed_ok b c no_types vs i k h = (no_exprs, ap (all_enclosed b no_types) (no_values_shape mode E vs b h), refl)
    all_enclosed_ok b c (typ T Ts) vs i k h =
        let s = values_shape mode E vs b (sees b T) (all_seen E mode b Ts) h in
        let l = all_left (is_known E) (mentions T) (mentions_of_all Ts) k in
        let r = all_right (is_known E) (mentions T) (mentions_of_all Ts) k in
        let d = all_enclosed_ok b c Ts s.1 i r s.4 in
        (expr (enclosed b T s.0) d.0, ap (all_enclosed b (typ T Ts)) s.2 ∙ ap (option_map (expr (enclosed b T s.0))) d.1, (sees c T, all_seen E mode c Ts, refl, enclosed_ok b c T s.0 i l s.3, d.2))

    inside_is : (d : Home) (n t : Bytes) (w : Value) → inside_seal n t (VSeal d n t w) ≡ Some (d, w)
    inside_is d n t w = ap (λ b. cond b (Some (d, w)) None) (and_true (bytes_refl n) (bytes_refl t))

    -- n.t, whose representation is R
    name_ok : (b c : Home) (n t : Bytes) (v : Value) (R : Typ) → representation E n t ≡ Some R → IsKnown (TAbs n t) → (x y : Bool) → opens mode E b n ≡ x → opens mode E c n ≡ y → AtHome b → ValueTyped mode E v b (sees b (TAbs n t)) → Good c (sees c (TAbs n t)) (at_name b n t (Some R) v x y)
    name_ok b c n t v R r k true true p q a h =
        let B = view_open E coherent mode b n t R r k p in
        let C = view_open E coherent mode c n t R r k q in
        (C, representation_known E coherent n t R r, (refl, subst (λ X. ValueTyped mode E v b X) B h, representation_known E coherent n t R r), a)
    name_ok b c n t v R r k true false p q a h =
        let e = view_shut E mode c n t q in
        (refl, subst (λ X. ValueTyped mode E (VSeal b n t v) c X) (sym e) (refl, k, p, q, h, a), k)
    name_ok b c n t v R r k false true p q a h =
        let s = shape mode E v b (sees b (TAbs n t)) (TAbs n t) (view_shut E mode b n t p) h in
        let K = representation_known E coherent n t R r in
        let C = view_open E coherent mode c n t R r k q in
        let D = view_open E coherent mode s.0 n t R r k s.4 in
        let e : inside_seal n t v ≡ Some (s.0, s.1) = ap (inside_seal n t) s.2 ∙ inside_is s.0 n t s.1 in
        subst (λ o. Good c (sees c (TAbs n t)) (becomes (unsealed_term o (Some R)))) (sym e) (C, K, (refl, subst (λ X. ValueTyped mode E s.1 s.0 X) D s.5, K), s.6)
    name_ok b c n t v R r k false false p q a h =
        let s = shape mode E v b (sees b (TAbs n t)) (TAbs n t) (view_shut E mode b n t p) h in
        let e : inside_seal n t v ≡ Some (s.0, s.1) = ap (inside_seal n t) s.2 ∙ inside_is s.0 n t s.1 in
        let it : ValueTyped mode E (VSeal s.0 n t s.1) c (TAbs n t) = (refl, s.3, s.4, q, s.5, s.6) in
        let there : ValueTyped mode E v c (sees c (TAbs n t)) = subst (λ X. ValueTyped mode E v c X) (sym (view_shut E mode c n t q)) (subst (λ x. ValueTyped mode E x c (TAbs n t)) (sym s.2) it) in
        subst (λ o. Good c (sees c (TAbs n t)) (cond (is_some o) (Goes (Evaluated (TAbs n t) v)) Wrong)) (sym e) (refl, there, k)

    bracket_ok : (T : Typ) (b c : Home) (v : Value) → AtHome b → IsKnown T → ValueTyped mode E v b (sees b T) → Good c (sees c T) (bracket_step mode E b c T v)
    bracket_ok TInt b c v i k h = let s = shape mode E v b (sees b TInt) TInt (seen_int E mode b) h in subst (λ x. Good c (sees c TInt) (bracket_step mode E b c TInt x)) (sym s.1) (const_at c TInt TInt (VInt s.0) (seen_int E mode c) k refl)
    bracket_ok TBool b c v i k h = let s = shape mode E v b (sees b TBool) TBool (seen_bool E mode b) h in subst (λ x. Good c (sees c TBool) (bracket_step mode E b c TBool x)) (sym s.1) (const_at c TBool TBool (VBool s.0) (seen_bool E mode c) k refl)
    bracket_ok TStr b c v i k h = let s = shape mode E v b (sees b TStr) TStr (seen_str E mode b) h in subst (λ x. Good c (sees c TStr) (bracket_step mode E b c TStr x)) (sym s.1) (const_at c TStr TStr (VStr s.0) (seen_str E mode c) k refl)
    bracket_ok TUnit b c v i k h = let s = shape mode E v b (sees b TUnit) TUnit (seen_unit E mode b) h in subst (λ x. Good c (sees c TUnit) (bracket_step mode E b c TUnit x)) (sym s) (const_at c TUnit TUnit VUnit (seen_unit E mode c) k refl)
    bracket_ok TExn b c v i k h = let s = shape mode E v b (sees b TExn) TExn (seen_exn E mode b) h in subst (λ x. Good c (sees c TExn) (bracket_step mode E b c TExn x)) (sym s.2) (const_at c TExn TExn (VExn s.0 s.1) (seen_exn E mode c) k refl)
    bracket_ok (TTuple Ts) b c v i k h =
        let s = shape mode E v b (sees b (TTuple Ts)) (TTuple (all_seen E mode b Ts)) (seen_tuple E mode b Ts) h in
        let d = all_enclosed_ok b c Ts s.0 i k s.2 in
        subst (λ x. Good c (sees c (TTuple Ts)) (bracket_step mode E b c (TTuple Ts) x)) (sym s.1)
        (subst (λ o. Good c (sees c (TTuple Ts)) (becomes (option_map Tuple o))) (sym d.1) (all_seen E mode c Ts, seen_tuple E mode c Ts, d.2))
    bracket_ok (TList T) b c v i k h = by (shape mode E v b (sees b (TList T)) (TList (sees b T)) (seen_list E mode b T) h)
      where
        by : ((B : Typ) × (v ≡ VNil B)) ⊎ ((x y : Value) × (v ≡ VCons x y) × ValueTyped mode E x b (sees b T) × ValueTyped mode E y b (TList (sees b T))) → Good c (sees c (TList T)) (bracket_step mode E b c (TList T) v)
        by (inl s) = subst (λ x. Good c (sees c (TList T)) (bracket_step mode E b c (TList T) x)) (sym s.1) (sees c T, seen_list E mode c T, refl, k)
        by (inr s) =
            let rest : Typed mode E (enclosed b (TList T) s.1) c [] (TList (sees c T)) = subst (λ X. Typed mode E (enclosed b (TList T) s.1) c [] X) (seen_list E mode c T) (enclosed_ok b c (TList T) s.1 i k (subst (λ X. ValueTyped mode E s.1 b X) (sym (seen_list E mode b T)) s.4)) in
            subst (λ x. Good c (sees c (TList T)) (bracket_step mode E b c (TList T) x)) (sym s.2) (sees c T, seen_list E mode c T, enclosed_ok b c T s.0 i k s.3, rest)
    bracket_ok (TOpt T) b c v i k h = by (shape mode E v b (sees b (TOpt T)) (TOpt (sees b T)) (seen_opt E mode b T) h)
      where
        by : ((B : Typ) × (v ≡ VAbsent B)) ⊎ ((x : Value) × (v ≡ VPresent x) × ValueTyped mode E x b (sees b T)) → Good c (sees c (TOpt T)) (bracket_step mode E b c (TOpt T) v)
        by (inl s) = subst (λ x. Good c (sees c (TOpt T)) (bracket_step mode E b c (TOpt T) x)) (sym s.1) (sees c T, seen_opt E mode c T, refl, k)
        by (inr s) = subst (λ x. Good c (sees c (TOpt T)) (bracket_step mode E b c (TOpt T) x)) (sym s.1) (sees c T, seen_opt E mode c T, enclosed_ok b c T s.0 i k s.2)
    bracket_ok (TFun T U) b c v i k h =
        let s = shape mode E v b (sees b (TFun T U)) (TFun (sees b T) (sees b U)) (seen_fun E mode b T U) h in
        let l = all_left (is_known E) (mentions T) (mentions U) k in
        let r = all_right (is_known E) (mentions T) (mentions U) k in
        subst (λ m. Good c (sees c (TFun T U)) (cond m (Is (VProxy b T U v)) Wrong)) (sym s) (seen_fun E mode c T U, l, r, subst (λ X. ValueTyped mode E v b X) (seen_fun E mode b T U) h, i)
    bracket_ok (TAbs n t) b c v i k h =
        let r = represented E coherent n t k in
        subst (λ o. Good c (sees c (TAbs n t)) (at_name b n t o v (opens mode E b n) (opens mode E c n))) (sym r.1) (name_ok b c n t v r.0 r.1 k (opens mode E b n) (opens mode E c n) refl refl i h)
    bracket_ok (TMine t) b c v i k h = absurd (shape mode E v b (sees b (TMine t)) (TMine t) (seen_mine E mode b t) h)

    last_of_two : (U V : Typ) (Vs : Typs) (Us Ts : Typs) (T : Typ) → Ts ≡ typ U Us → Us ≡ typ V Vs → IsLast Ts T → IsLast Us T
    last_of_two U V Vs Us Ts T p q h =
        let l : IsLast (typ U (typ V Vs)) T = subst (λ X. IsLast X T) (p ∙ ap (typ U) q) h in
        subst (λ X. IsLast X T) (sym q) l.1

    -- what is next in a typed term
    mutual
      pub kept : (e : Expr) (c : Home) (T : Typ) → AtHome c → Typed mode E e c [] T → Good c T (look mode z c e)
      kept (Int n) c T i h = h
      kept (Boolean b) c T i h = h
      kept (Str s) c T i h = h
      kept Unit' c T i h = h
      kept (Exn k) c T i h = h
      kept (Nil A) c T i h = h
      kept (Empty A) c T i h = h
      kept (Lam A e) c T i h = h
      kept (Rec A B e) c T i h = h
      kept (Evaluated A v) c T i h = h.1
      kept (ExnOf k e) c T i h = one_part c TStr T (ExnOf k) (exception_of k) (look mode z c e) (kept e c TStr i h.1) (λ F s g p. (h.0, p)) (λ v p. text_ok c k v T h.0 p)
      kept (Tuple es) c T i h = within_ok E (TermsOf c h.0) (TermOf c T) (ValuesOf c h.0) (ValueOf c T) Tuple (λ vs. Is (VTuple vs)) Raises (look_all mode z c es) coherent (all_kept es c h.0 i h.2) (λ F s g p. (h.0, h.1, p)) (λ vs p. (h.0, h.1, p)) (λ x. tt)
      kept (Present e) c T i h = one_part c h.0 T Present (λ v. Is (VPresent v)) (look mode z c e) (kept e c h.0 i h.2) (λ F s g p. (h.0, h.1, p)) (λ v p. (h.0, h.1, p))
      kept (Cons a b) c T i h =
          one_part c h.0 T (λ x. Cons x b) (λ v. part (λ y. Cons a y) (λ w. Is (VCons v w)) (look mode z c b)) (look mode z c a) (kept a c h.0 i h.2) (λ F s g p. (h.0, h.1, p, more F c i g b [] (TList h.0) h.3))
          (λ v p. one_part c (TList h.0) T (λ y. Cons a y) (λ w. Is (VCons v w)) (look mode z c b) (kept b c (TList h.0) i h.3) (λ F s g q. (h.0, h.1, more F c i g a [] h.0 h.2, q)) (λ w q. (h.0, h.1, p, q)))
      kept (App f a) c T i h =
          one_part c (TFun h.0 T) T (λ x. App x a) (λ v. part (λ y. App f y) (λ w. apply c v w) (look mode z c a)) (look mode z c f) (kept f c (TFun h.0 T) i h.1) (λ F s g p. (h.0, p, more F c i g a [] h.0 h.2))
          (λ v p. one_part c h.0 T (λ y. App f y) (λ w. apply c v w) (look mode z c a) (kept a c h.0 i h.2) (λ F s g q. (h.0, more F c i g f [] (TFun h.0 T) h.1, q)) (λ w q. apply_ok v c w h.0 T i p q))
      kept (Let A e b) c T i h =
          one_part c (sees c A) T (λ x. Let A x b) (λ v. Goes (inst 0 ((A, v) ∷ []) b)) (look mode z c e) (kept e c (sees c A) i h.0)
          (λ F s g p. (at_more F c i g A h.2 s p, subst (λ X. Typed mode F b c (X ∷ []) T) (sees_more F c i g A h.2) (more F c i g b (sees c A ∷ []) T h.1), know_more F g A h.2))
          (λ v p. inst_typed mode E b c [] (sees c A ∷ []) T ((A, v) ∷ []) 0 refl ([], refl, p, refl, h.2) h.1)
      kept (If e a b) c T i h =
          one_part c TBool T (λ x. If x a b) (λ v. branch v a b) (look mode z c e) (kept e c TBool i h.0) (λ F s g p. (p, more F c i g a [] T h.1, more F c i g b [] T h.2)) (λ v p. branch_ok c v a b T p h.1 h.2)
      kept (Match e arms) c T i h =
          one_part c h.0 T (λ x. Match x arms) (λ v. or_raises match_failure_exn (chosen arms v)) (look mode z c e) (kept e c h.0 i h.1) (λ F s g p. (h.0, p, arms_more F c i g arms h.0 T h.2, h.3)) (λ v p. chosen_ok c arms v h.0 T match_failure_exn h.2 p)
      kept (Seq no_exprs) c T i h = absurd (subst (λ X. IsLast X T) h.1 h.2)
      kept (Seq (expr e no_exprs)) c T i h =
          let a = h.1 in
          let l : IsLast (typ a.0 no_types) T = subst (λ X. IsLast X T) (a.2 ∙ ap (typ a.0) a.4) h.2 in
          subst (λ X. Typed mode E e c [] X) l a.3
      kept (Seq (expr e (expr d es))) c T i h =
          let a = h.1 in
          one_part c a.0 T (λ x. Seq (expr x (expr d es))) (λ v. Goes (Seq (expr d es))) (look mode z c e) (kept e c a.0 i a.3) (λ F s g p. (h.0, (a.0, a.1, a.2, p, all_more F c i g (expr d es) a.1 a.4), h.2))
          (λ v p. (a.1, a.4, last_of_two a.0 a.4.0 a.4.1 a.1 h.0 T a.2 a.4.2 h.2))
      kept (Raise A e) c T i h = one_part c TExn T (Raise A) thrown (look mode z c e) (kept e c TExn i h.1) (λ F s g p. (h.0 ∙ sees_more F c i g A h.2, p, know_more F g A h.2)) (λ v p. throw_ok c v T p)
      kept (Try e arms) c T i h =
          within_ok E (TermOf c T) (TermOf c T) (ValueOf c T) (ValueOf c T) (λ x. Try x arms) (λ v. Goes e) (λ x. or_raises x (chosen arms (exception_value x))) (look mode z c e) coherent (kept e c T i h.0)
          (λ F s g p. (p, arms_more F c i g arms TExn T h.1, h.2)) (λ v p. h.0) (λ x. chosen_ok c arms (exception_value x) TExn T x h.1 refl)
      kept (Prim k es) c T i h =
          within_ok E (TermsOf c h.0) (TermOf c T) (ValuesOf c h.0) (ValueOf c T) (Prim k) (λ vs. answered spelled (raising TStr) z (primitive k vs)) Raises (look_all mode z c es) coherent (all_kept es c h.0 i h.1) (λ F s g p. (h.0, p, h.2))
          (λ vs p.
          let r = prim_ok k h.0 T h.2 in
          let s = consts_ok mode E h.0 r.0 vs c p in
          answer_ok (primitive k vs) c T (subst (λ o. AnswerOf T (answer_at (meaning k) o)) (sym s.1) (r.1 s.0 s.2))) (λ x. tt)
      kept (Marshal A m e) c T i h =
          one_part c TStr T (λ x. Marshal A x e) (λ v. part (λ y. Marshal A m y) (λ w. marshal_step z c A v w) (look mode z c e)) (look mode z c m) (kept m c TStr i h.1)
          (λ F s g p. (h.0, p, at_more F c i g A h.3 e (more F c i g e [] (sees c A) h.2), know_more F g A h.3))
          (λ v p. one_part c (sees c A) T (λ y. Marshal A m y) (λ w. marshal_step z c A v w) (look mode z c e) (kept e c (sees c A) i h.2) (λ F s g q. (h.0, more F c i g m [] TStr h.1, at_more F c i g A h.3 s q, know_more F g A h.3)) (λ w q. marshal_ok c v w A T h.0 p))
      kept (Unmarshal A e) c T i h =
          one_part c TStr T (Unmarshal A) (unmarshal_step mode z c A) (look mode z c e) (kept e c TStr i h.1) (λ F s g p. (h.0 ∙ sees_more F c i g A h.2, p, know_more F g A h.2)) (λ v p. unmarshal_ok c v A T i p h.2 h.0)
      kept (Own f) c T i h = subst (λ X. Good c X (becomes (own_field E c f))) (sym h.2) (own_ok c f h.0 (own_field E c f) refl h.1)
      kept (Ref j x) c T i h =
          subst (λ X. Good c X (becomes (referred E j x))) (sym h.2)
          (ref_ok c j h.0 (value_home mode E coherent j x h.0 h.1) ((known_types E coherent).values j x h.0 h.1) (route E j x) ((coherent-Links E coherent).links j x h.0 h.1))
      kept (Bracket b A e) c T i h =
          within_ok E (TermOf b (sees b A)) (TermOf c T) (ValueOf b (sees b A)) (ValueOf c T) (Bracket b A) (bracket_step mode E b c A) Raises (look mode z b e) coherent (kept e b (sees b A) h.3 h.2)
          (λ F s g p. (h.0 ∙ sees_more F c i g A h.1, know_more F g A h.1, at_more F b h.3 g A h.1 s p, home_more E F g.extends b h.3)) (λ v p. subst (λ X. Good c X (bracket_step mode E b c A v)) (sym h.0) (bracket_ok A b c v h.3 h.1 p)) (λ x. tt)
      kept (Var k) c T i h = absurd (none≢some h)
      kept (Val A v) c T i h = absurd h

      pub all_kept : (es : Exprs) (c : Home) (Ts : Typs) → AtHome c → AllTyped mode E es c [] Ts → AllGood c Ts (look_all mode z c es)
      all_kept no_exprs c Ts i h = h
      all_kept (expr e es) c Ts i h =
          within_ok E (TermOf c h.0) (TermsOf c Ts) (ValueOf c h.0) (ValuesOf c Ts) (λ x. expr x es) (λ v. part (λ y. expr e y) (λ vs. Is (value v vs)) (look_all mode z c es)) Raises (look mode z c e) coherent (kept e c h.0 i h.3) (λ F s g p. (h.0, h.1, h.2, p, all_more F c i g es h.1 h.4))
          (λ v p. within_ok E (TermsOf c h.1) (TermsOf c Ts) (ValuesOf c h.1) (ValuesOf c Ts) (λ y. expr e y) (λ vs. Is (value v vs)) Raises (look_all mode z c es) coherent (all_kept es c h.1 i h.4) (λ F s g q. (h.0, h.1, h.2, more F c i g e [] h.0 h.3, q)) (λ vs q. (h.0, h.1, h.2, p, q)) (λ x. tt)) (λ x. tt)

    after_ok : (N : ℕ) (T : Typ) (a : Act Expr Value) → Good Main T a → IsTyped mode T (after N z a)
    after_ok N T (Is v) h = (coherent, h)
    after_ok N T (Goes e) h = (coherent, h)
    after_ok N T (Turns y e) h = (h.0.after, h.1)
    after_ok N T (Applies e) h = by (nat_lt z.made N)
      where
        by : (b : Bool) → IsTyped mode T (cond b (At e (counted z)) (Over (Spent z)))
        by true = (coherent, h)
        by false = coherent
    after_ok N T (Raises x) h = coherent
    after_ok N T Wrong h = absurd h

  pub typing_kept : (T : Typ) (N : ℕ) (s : State Expr Value) → IsTyped mode T s → IsTyped mode T (step mode N s)
  typing_kept T N (At e z) h = after_ok z h.0 N T (look_main mode z e) (kept z h.0 e Main T refl h.1)
  typing_kept T N (Over o) h = h

pub starts_typed : (E : Environment) (e : Expr) (T : Typ) → IsTypedProgram E e T → (input : Bytes) (sends : Bool) → IsTyped Coloured T (At e (fresh E input sends))
starts_typed E e T p input sends = (p.coherent, typed_from E p.coherent (known_types E p.coherent) Coloured e (all_of E Main) T p.source p.typed)
