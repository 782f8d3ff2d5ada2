-- What code of a home writes passes the home's test in the next state, where it does in this one, in the definitions' fields and in what a string brings.
use Rattle.std.proofs.Common.{◌≡◌, refl, sym, subst, ℕ, zero, suc, ◌+◌, Bool, true, false, nat_lt, cond, List, [], ◌∷◌, ◌++◌, Option, Some, None}
use Rattle.std.specs.List.{list_all}
use Rattle.ac_types.proofs.Same.{both_true, and_true}
use Rattle.std.specs.Prelude.{option_map, option_and_then, nat_eq, is_some, ◌&&◌}
use Rattle.std.specs.Option.{option_or}
use Rattle.ac_types.proofs.FirstLaws.{none≢some, some_eq, given_some}
use Rattle.ac_types.specs.Partial.{given}
use Rattle.ac_types.specs.Types.{Bytes, same_bytes, mentions, Typ, TInt, TBool, TStr, TUnit, TExn, TTuple, TList, TOpt, TFun, TAbs, Typs, no_types, typ}
use Rattle.ac_terms.specs.Terms.{Home, Main, In, Pattern, PWild, PVar, PInt, PBool, PStr, PUnit, PTuple, PNil, PCons, PAbsent, PPresent, PExn, PExnOf, Patterns, no_patterns, pattern', Expr, Int, Boolean, Str, Unit', Exn, ExnOf, Tuple, Nil, Empty, Present, Cons, Var, Own, Ref, Lam, Rec, App, Let, If, Seq, Match, Try, Raise, Prim, Marshal, Unmarshal, Val, Evaluated, Bracket, Exprs, no_exprs, expr, Arms, no_arms, arm, Value, VInt, VBool, VStr, VUnit, VExn, VTuple, VNil, VCons, VAbsent, VPresent, VLam, VRec, VProxy, VSeal, Values, no_values, value}
use Rattle.ac_terms.specs.Defs.{Environment}
use Rattle.ac_code.specs.Constants.{Const, CInt, CBool, CStr, CUnit, CPart, PrimitiveAnswer, Yields, Prints, Sends, Receives, Fails, NoSense}
use Rattle.ac_rules.specs.Views.{Coloured, opens, representation}
use Rattle.ac_rules.specs.Plain.{packed}
use Rattle.ac_rules.specs.Typing.{is_function}
use Rattle.ac_meaning.specs.Worlds.{Exception, World, match_failure_exn, counted, Read, with_crossing}
use Rattle.ac_outside.specs.Frames.{Frame, Whole, Bad, AtEnd, next_frame}
use Rattle.ac_meaning.specs.Acts.{Act, Is, Goes, Turns, Applies, Raises, Wrong, becomes, or_raises, within, part, Spent, At, Over, after}
use Rattle.ac_meaning.specs.Substitution.{Written, Slot, Free, Bound, up, slot_in, slot, from_slot, binders, inst, inst_all, inst_arms}
use Rattle.ac_meaning.specs.Matching.{fit, fit_all, chosen}
use Rattle.ac_meaning.specs.PrimitiveSteps.{spelled, primitive, answered, sending, receiving, exception_of, exception_value, thrown}
use Rattle.ac_meaning.specs.Brackets.{enclosed, all_enclosed, is_function_value, inside_seal, unsealed_term, at_name, bracket_step}
use Rattle.ac_meaning.specs.References.{own_field, Route, Nowhere, Once, Twice, route, routed}
use Rattle.ac_meaning.specs.Packing.{Packing, CannotPack, Packs, packs, packing, Arrival, Unfit, Brings, arrival, brings, raising, marshal_step, unmarshal_step}
use Rattle.ac_meaning.specs.Reduction.{apply, branch, look, look_all, look_main, step}
use Rattle.ac_meaning.specs.Redexes.{Redex, redex, redex_all, stands_next, crosses}
use Rattle.ac_colours.proofs.Owning.{Writes, PatternOwned, PatternsOwned, Owned, AllOwned, ArmsOwned, ValueOwned, ValuesOwned, StateOwned}
use Rattle.ac_colours.proofs.SealsLaw.{AtRest, rest, rest_all, none_else}

module _ (q : Home → Bytes × Bytes → Bool) where
  abbrev W! : Home → Typ → Type 0
  W! c T = Writes q c T

  abbrev O! : Bool → Home → Expr → Type 0
  O! k c e = Owned q k c e

  abbrev V! : Home → Value → Type 0
  V! c v = ValueOwned q c v

  -- what passes under binders passes where the next step is
  mutual
    pub loosen : (e : Expr) (c : Home) → O! false c e → O! true c e
    loosen (ExnOf k e) c h = loosen e c h
    loosen (Tuple es) c h = all_loosen es c h
    loosen (Present e) c h = loosen e c h
    loosen (Cons a b) c h = (loosen a c h.0, loosen b c h.1)
    loosen (Lam T e) c h = h
    loosen (Rec T U e) c h = h
    loosen (App a b) c h = (loosen a c h.0, loosen b c h.1)
    loosen (Let T a b) c h = (h.0, loosen a c h.1, h.2)
    loosen (If a b d) c h = (loosen a c h.0, loosen b c h.1, loosen d c h.2)
    loosen (Seq es) c h = all_loosen es c h
    loosen (Match e arms) c h = (loosen e c h.0, h.1)
    loosen (Try e arms) c h = (loosen e c h.0, h.1)
    loosen (Raise T e) c h = loosen e c h
    loosen (Prim k es) c h = all_loosen es c h
    loosen (Marshal T a b) c h = (h.0, loosen a c h.1, loosen b c h.2)
    loosen (Unmarshal T e) c h = (h.0, loosen e c h.1)
    loosen (Val T v) c h = absurd h
    loosen (Evaluated T v) c h = (tt, h.1)
    loosen (Bracket b T e) c h = absurd h.0
    loosen _ c h = tt

    all_loosen : (es : Exprs) (c : Home) → AllOwned q false c es → AllOwned q true c es
    all_loosen no_exprs c h = tt
    all_loosen (expr e es) c h = (loosen e c h.0, all_loosen es c h.1)

  -- what is written for variables
  abbrev EnvOwned : Home → Written → Type 0
  EnvOwned c [] = Unit {0}
  EnvOwned c (w ∷ ws) = (W! c w.0 × V! c w.1) × EnvOwned c ws

  abbrev SlotOwned : Home → Slot Value → Type 0
  SlotOwned c (Free i) = Unit {0}
  SlotOwned c (Bound T v) = W! c T × V! c v

  up_owned : (c : Home) (s : Slot Value) → SlotOwned c s → SlotOwned c (up s)
  up_owned c (Free i) h = tt
  up_owned c (Bound T v) h = h

  slot_in_owned : (c : Home) (ws : Written) (i : ℕ) → EnvOwned c ws → SlotOwned c (slot_in ws i)
  slot_in_owned c [] i h = tt
  slot_in_owned c (w ∷ ws) zero h = h.0
  slot_in_owned c (w ∷ ws) (suc i) h = slot_in_owned c ws i h.1

  slot_owned : (c : Home) (d : ℕ) (ws : Written) (i : ℕ) → EnvOwned c ws → SlotOwned c (slot d ws i)
  slot_owned c zero ws i h = slot_in_owned c ws i h
  slot_owned c (suc d) ws zero h = tt
  slot_owned c (suc d) ws (suc i) h = up_owned c (slot d ws i) (slot_owned c d ws i h)

  from_owned : (c : Home) (s : Slot Value) → SlotOwned c s → O! false c (from_slot s)
  from_owned c (Free i) h = tt
  from_owned c (Bound T v) h = h

  mutual
    inst_owned : (e : Expr) (c : Home) (d : ℕ) (ws : Written) → EnvOwned c ws → O! false c e → O! false c (inst d ws e)
    inst_owned (ExnOf k e) c d ws w h = inst_owned e c d ws w h
    inst_owned (Tuple es) c d ws w h = inst_all_owned es c d ws w h
    inst_owned (Present e) c d ws w h = inst_owned e c d ws w h
    inst_owned (Cons a b) c d ws w h = (inst_owned a c d ws w h.0, inst_owned b c d ws w h.1)
    inst_owned (Var i) c d ws w h = from_owned c (slot d ws i) (slot_owned c d ws i w)
    inst_owned (Lam T e) c d ws w h = (h.0, inst_owned e c (suc d) ws w h.1)
    inst_owned (Rec T U e) c d ws w h = (h.0, h.1, inst_owned e c (suc (suc d)) ws w h.2)
    inst_owned (App a b) c d ws w h = (inst_owned a c d ws w h.0, inst_owned b c d ws w h.1)
    inst_owned (Let T a b) c d ws w h = (h.0, inst_owned a c d ws w h.1, inst_owned b c (suc d) ws w h.2)
    inst_owned (If e a b) c d ws w h = (inst_owned e c d ws w h.0, inst_owned a c d ws w h.1, inst_owned b c d ws w h.2)
    inst_owned (Seq es) c d ws w h = inst_all_owned es c d ws w h
    inst_owned (Match e arms) c d ws w h = (inst_owned e c d ws w h.0, inst_arms_owned arms c d ws w h.1)
    inst_owned (Try e arms) c d ws w h = (inst_owned e c d ws w h.0, inst_arms_owned arms c d ws w h.1)
    inst_owned (Raise T e) c d ws w h = inst_owned e c d ws w h
    inst_owned (Prim k es) c d ws w h = inst_all_owned es c d ws w h
    inst_owned (Marshal T a b) c d ws w h = (h.0, inst_owned a c d ws w h.1, inst_owned b c d ws w h.2)
    inst_owned (Unmarshal T e) c d ws w h = (h.0, inst_owned e c d ws w h.1)
    inst_owned _ c d ws w h = h

    inst_all_owned : (es : Exprs) (c : Home) (d : ℕ) (ws : Written) → EnvOwned c ws → AllOwned q false c es → AllOwned q false c (inst_all d ws es)
    inst_all_owned no_exprs c d ws w h = tt
    inst_all_owned (expr e es) c d ws w h = (inst_owned e c d ws w h.0, inst_all_owned es c d ws w h.1)

    inst_arms_owned : (arms : Arms) (c : Home) (d : ℕ) (ws : Written) → EnvOwned c ws → ArmsOwned q c arms → ArmsOwned q c (inst_arms d ws arms)
    inst_arms_owned no_arms c d ws w h = tt
    inst_arms_owned (arm p e rest) c d ws w h = (h.0, inst_owned e c (binders p + d) ws w h.1, inst_arms_owned rest c d ws w h.2)

  -- patterns
  given_is : (b : Bool) (o : Option Written) (us : Written) → given b o ≡ Some us → o ≡ Some us
  given_is b o us h = (given_some b o h).1

  same_env : (c : Home) (ws us : Written) → Some ws ≡ Some us → EnvOwned c ws → EnvOwned c us
  same_env c ws us e h = subst (EnvOwned c) (some_eq e) h

  then_is : (f : Written → Option Written) (o : Option Written) (us : Written) → option_and_then f o ≡ Some us → (vs : Written) × (o ≡ Some vs) × (f vs ≡ Some us)
  then_is f None us h = absurd (none≢some h)
  then_is f (Some vs) us h = (vs, refl, h)

  mutual
    fit_owned : (p : Pattern) (c : Home) (v : Value) (ws us : Written) → fit p v ws ≡ Some us → PatternOwned q c p → V! c v → EnvOwned c ws → EnvOwned c us
    fit_owned PWild c v ws us e u h w = same_env c ws us e w
    fit_owned (PVar T) c v ws us e u h w = same_env c ((T, v) ∷ ws) us e ((u, h), w)
    fit_owned (PInt n) c (VInt x) ws us e u h w = same_env c ws us (given_is _ (Some ws) us e) w
    fit_owned (PBool n) c (VBool x) ws us e u h w = same_env c ws us (given_is _ (Some ws) us e) w
    fit_owned (PStr n) c (VStr x) ws us e u h w = same_env c ws us (given_is _ (Some ws) us e) w
    fit_owned PUnit c VUnit ws us e u h w = same_env c ws us e w
    fit_owned (PTuple ps) c (VTuple vs) ws us e u h w = all_fit_owned ps c vs ws us e u h w
    fit_owned PNil c (VNil T) ws us e u h w = same_env c ws us e w
    fit_owned (PCons p r) c (VCons x y) ws us e u h w = let f = then_is (fit r y) (fit p x ws) us e in fit_owned r c y f.0 us f.2 u.1 h.1 (fit_owned p c x ws f.0 f.1 u.0 h.0 w)
    fit_owned PAbsent c (VAbsent T) ws us e u h w = same_env c ws us e w
    fit_owned (PPresent p) c (VPresent x) ws us e u h w = fit_owned p c x ws us e u h w
    fit_owned (PExn n) c (VExn j None) ws us e u h w = same_env c ws us (given_is (nat_eq n j) (Some ws) us e) w
    fit_owned (PExnOf n p) c (VExn j (Some s)) ws us e u h w = fit_owned p c (VStr s) ws us (given_is (nat_eq n j) (fit p (VStr s) ws) us e) u tt w
    fit_owned _ c _ ws us e u h w = absurd (none≢some e)

    all_fit_owned : (ps : Patterns) (c : Home) (vs : Values) (ws us : Written) → fit_all ps vs ws ≡ Some us → PatternsOwned q c ps → ValuesOwned q c vs → EnvOwned c ws → EnvOwned c us
    all_fit_owned no_patterns c no_values ws us e u h w = same_env c ws us e w
    all_fit_owned (pattern' p ps) c (value v vs) ws us e u h w = let f = then_is (fit_all ps vs) (fit p v ws) us e in all_fit_owned ps c vs f.0 us f.2 u.1 h.1 (fit_owned p c v ws f.0 f.1 u.0 h.0 w)
    all_fit_owned _ c _ ws us e u h w = absurd (none≢some e)

  -- what is next passes
  abbrev ActOwned : {S A : Type 0} → (S → Type 0) → (A → Type 0) → Act S A → Type 0
  ActOwned f g (Is v) = g v
  ActOwned f g (Goes s) = f s
  ActOwned f g (Turns z s) = f s
  ActOwned f g (Applies s) = f s
  ActOwned f g (Raises x) = Unit {0}
  ActOwned f g Wrong = Unit {0}

  abbrev Good : Home → Act Expr Value → Type 0
  Good c a = ActOwned (Owned q true c) (ValueOwned q c) a

  abbrev AllGood : Home → Act Exprs Values → Type 0
  AllGood c a = ActOwned (AllOwned q true c) (ValuesOwned q c) a

  arm_owned : (c : Home) (p : Pattern) (t : Expr) (v : Value) (o : Option Written) (rest : Option Expr) (x : Exception) → fit p v [] ≡ o → PatternOwned q c p → V! c v → O! false c t → Good c (or_raises x rest) → Good c (or_raises x (option_or (option_map (λ ws. inst 0 ws t) o) rest))
  arm_owned c p t v None rest x e u h k r = r
  arm_owned c p t v (Some ws) rest x e u h k r = loosen (inst 0 ws t) c (inst_owned t c 0 ws (fit_owned p c v [] ws e u h tt) k)

  chosen_owned : (c : Home) (arms : Arms) (v : Value) (x : Exception) → ArmsOwned q c arms → V! c v → Good c (or_raises x (chosen arms v))
  chosen_owned c no_arms v x h k = tt
  chosen_owned c (arm p t rest) v x h k = arm_owned c p t v (fit p v []) (chosen rest v) x refl h.0 k h.1 (chosen_owned c rest v x h.2 k)

  both : (p : Bytes × Bytes → Bool) (xs ys : List (Bytes × Bytes)) → list_all p xs ≡ true → list_all p ys ≡ true → list_all p (xs ++ ys) ≡ true
  both p [] ys h k = k
  both p (x ∷ xs) ys h k = and_true {a = p x} {b = list_all p (xs ++ ys)} (both_true (p x) (list_all p xs) h).0 (both p xs ys (both_true (p x) (list_all p xs) h).1 k)

  apply_owned : (c : Home) (v w : Value) → V! c v → V! c w → Good c (apply c v w)
  apply_owned c (VLam T e) w h k = loosen (inst 0 ((T, w) ∷ []) e) c (inst_owned e c 0 ((T, w) ∷ []) ((h.0, k), tt) h.1)
  apply_owned c (VRec T U e) w h k =
      let ws : Written = (T, w) ∷ (TFun T U, VRec T U e) ∷ [] in
      loosen (inst 0 ws e) c (inst_owned e c 0 ws ((h.0, k), ((both (q c) (mentions T) (mentions U) h.0 h.1, h), tt)) h.2)
  apply_owned c (VProxy b T U f) w h k = (tt, ((tt, h), (tt, (tt, k))))
  apply_owned c _ w h k = tt

  branch_owned : (c : Home) (v : Value) (a b : Expr) → O! true c a → O! true c b → Good c (branch v a b)
  branch_owned c (VBool true) a b h k = h
  branch_owned c (VBool false) a b h k = k
  branch_owned c _ a b h k = tt

  text_owned : (c : Home) (k : ℕ) (v : Value) → Good c (exception_of k v)
  text_owned c k (VStr s) = tt
  text_owned c k _ = tt

  thrown_owned : (c : Home) (v : Value) → Good c (thrown v)
  thrown_owned c (VExn k s) = tt
  thrown_owned c _ = tt

  spelled_owned : (c : Home) (k : Const) → O! true c (spelled k)
  spelled_owned c (CInt i) = tt
  spelled_owned c (CBool b) = tt
  spelled_owned c (CStr s) = tt
  spelled_owned c CUnit = tt
  spelled_owned c (CPart s i n) = (tt, (tt, (tt, tt)))

  -- the fields of definitions pass
  abbrev pub FieldsOwned : Environment → Type 0
  FieldsOwned E = (j f : ℕ) (e : Expr) → own_field E (In j) f ≡ Some e → O! false (In j) e

  -- what a string brings passes
  abbrev pub BroughtOwned : Home → Act Expr Value → Type 0
  BroughtOwned c (Turns z e) = O! true c e
  BroughtOwned c a = Unit {0}

  abbrev pub ArrivingOwned : Home → Act Expr Value → Act Expr Value → Type 0
  ArrivingOwned c (Is (VStr s)) a = BroughtOwned c a
  ArrivingOwned c o a = Unit {0}

  -- what is new in the step of a redex passes: what unmarshal brings
  abbrev pub NewsOwned : World → Home → Expr → Type 0
  NewsOwned z c (Unmarshal T e) = ArrivingOwned c (look Coloured z c e) (look Coloured z c (Unmarshal T e))
  NewsOwned z c e = Unit {0}

  module _ (z : World) (fields : FieldsOwned z.environment) where
    abbrev E : Environment
    E = z.environment

    abbrev NewsOf : Option Redex → Type 0
    NewsOf None = Unit {0}
    NewsOf (Some r) = NewsOwned z r.home r.term

    news_left : (o p : Option Redex) → NewsOf (option_or o p) → NewsOf o
    news_left None p h = tt
    news_left (Some r) p h = h

    within_owned : {S T A B : Type 0} (f : S → Type 0) (f' : T → Type 0) (g : A → Type 0) (g' : B → Type 0) (wrap : S → T) (done : A → Act T B) (catch : Exception → Act T B) (o p : Option Redex) (a : Act S A) → AtRest a o → NewsOf (option_or o p) → (NewsOf o → ActOwned f g a) → ((s : S) → f s → f' (wrap s)) → ((v : A) → a ≡ Is v → NewsOf p → g v → ActOwned f' g' (done v)) → ((x : Exception) → ActOwned f' g' (catch x)) → ActOwned f' g' (within wrap done catch a)
    within_owned f f' g g' wrap done catch o p (Is v) r n h w k x = k v refl (subst (λ o. NewsOf (option_or o p)) r n) (h (news_left o p n))
    within_owned f f' g g' wrap done catch o p (Goes s) r n h w k x = w s (h (news_left o p n))
    within_owned f f' g g' wrap done catch o p (Turns y s) r n h w k x = w s (h (news_left o p n))
    within_owned f f' g g' wrap done catch o p (Applies s) r n h w k x = w s (h (news_left o p n))
    within_owned f f' g g' wrap done catch o p (Raises y) r n h w k x = x y
    within_owned f f' g g' wrap done catch o p Wrong r n h w k x = tt

    -- the part stands in home b
    one_part : (b c : Home) (wrap : Expr → Expr) (done : Value → Act Expr Value) (o p : Option Redex) (a : Act Expr Value) → AtRest a o → NewsOf (option_or o p) → (NewsOf o → Good b a) → ((s : Expr) → O! true b s → O! true c (wrap s)) → ((v : Value) → a ≡ Is v → NewsOf p → V! b v → Good c (done v)) → Good c (part wrap done a)
    one_part b c wrap done o p a r n h w k = within_owned (Owned q true b) (Owned q true c) (ValueOwned q b) (ValueOwned q c) wrap done Raises o p a r n h w k (λ x. tt)

    sent_owned : (c : Home) (b : Bool) (s : Bytes) → Good c (sending spelled b s z)
    sent_owned c true s = tt
    sent_owned c false s = tt

    received_owned : (c : Home) (o : Frame) → Good c (receiving spelled (raising TStr) o z)
    received_owned c (Whole s rest) = tt
    received_owned c (Bad n got) = (tt, tt)
    received_owned c AtEnd = (tt, tt)

    answer_owned : (c : Home) (a : PrimitiveAnswer) → Good c (answered spelled (raising TStr) z a)
    answer_owned c (Yields k) = spelled_owned c k
    answer_owned c (Prints s) = tt
    answer_owned c (Sends s) = sent_owned c z.has_channel s
    answer_owned c Receives = received_owned c (next_frame z.input)
    answer_owned c (Fails k s) = tt
    answer_owned c NoSense = tt

    packs_owned : (c : Home) (p : Packing) → Good c (packs z p)
    packs_owned c (CannotPack x) = tt
    packs_owned c (Packs s) = tt

    marshal_owned : (c : Home) (T : Typ) (m v : Value) → Good c (marshal_step z c T m v)
    marshal_owned c T (VStr m) v = packs_owned c (packing z T m (packed z.environment c v T))
    marshal_owned c T _ v = tt

    brings_owned : (y : World) (c : Home) (T : Typ) (a : Arrival) → BroughtOwned c (brings Coloured y T a) → Good c (brings Coloured y T a)
    brings_owned y c T (Unfit x) h = h
    brings_owned y c T (Brings F v w) h = h

    unmarshal_owned : (c : Home) (T : Typ) (v : Value) → ArrivingOwned c (Is v) (unmarshal_step Coloured z c T v) → Good c (unmarshal_step Coloured z c T v)
    unmarshal_owned c T (VStr s) h = brings_owned (with_crossing (Read s) z) c T (arrival z c T s) h
    unmarshal_owned c T _ h = tt

    own_owned : (c : Home) (f : ℕ) (o : Option Expr) → own_field E c f ≡ o → Good c (becomes o)
    own_owned c f None e = tt
    own_owned Main f (Some t) e = absurd (none≢some e)
    own_owned (In j) f (Some t) e = loosen t (In j) (fields j f t e)

    once_owned : (b c : Home) (wrap : Expr → Expr) → ((e : Expr) → O! true b e → O! true c (wrap e)) → (o : Option Expr) → Good b (becomes o) → Good c (becomes (option_map wrap o))
    once_owned b c wrap w None h = tt
    once_owned b c wrap w (Some t) h = w t h

    routed_owned : (c : Home) (j : ℕ) (way : Route) → Good c (becomes (routed E j way))
    routed_owned c j Nowhere = tt
    routed_owned c j (Once m f T) = once_owned (In m) c (Bracket (In m) T) (λ e h. (tt, h)) (own_field E (In m) f) (own_owned (In m) f (own_field E (In m) f) refl)
    routed_owned c j (Twice m f T S) = once_owned (In m) c (λ e. Bracket (In j) T (Bracket (In m) S e)) (λ e h. (tt, (tt, h))) (own_field E (In m) f) (own_owned (In m) f (own_field E (In m) f) refl)

    -- brackets
    abbrev AllOf : Home → Option Exprs → Type 0
    AllOf c None = Unit {0}
    AllOf c (Some es) = AllOwned q true c es

    cons_owned : (c : Home) (e : Expr) (o : Option Exprs) → O! true c e → AllOf c o → AllOf c (option_map (expr e) o)
    cons_owned c e None h k = tt
    cons_owned c e (Some es) h k = (h, k)

    all_enclosed_owned : (b c : Home) (Ts : Typs) (vs : Values) → ValuesOwned q b vs → AllOf c (all_enclosed b Ts vs)
    all_enclosed_owned b c no_types no_values h = tt
    all_enclosed_owned b c (typ T Ts) (value v vs) h = cons_owned c (enclosed b T v) (all_enclosed b Ts vs) (tt, (tt, h.0)) (all_enclosed_owned b c Ts vs h.1)
    all_enclosed_owned b c no_types (value v vs) h = tt
    all_enclosed_owned b c (typ T Ts) no_values h = tt

    tuple_owned : (c : Home) (o : Option Exprs) → AllOf c o → Good c (becomes (option_map Tuple o))
    tuple_owned c None h = tt
    tuple_owned c (Some es) h = h

    abbrev InsideOwned : Option (Home × Value) → Type 0
    InsideOwned None = Unit {0}
    InsideOwned (Some p) = V! p.0 p.1

    inside_owned : (b : Home) (n t : Bytes) (v : Value) → V! b v → InsideOwned (inside_seal n t v)
    inside_owned b n t (VSeal d m u w) h = by (same_bytes m n && same_bytes u t)
      where
        by : (x : Bool) → InsideOwned (cond x (Some (d, w)) None)
        by true = h
        by false = tt
    inside_owned b n t _ h = tt

    unsealed_owned : (c : Home) (o : Option (Home × Value)) (R : Option Typ) → InsideOwned o → Good c (becomes (unsealed_term o R))
    unsealed_owned c None R h = tt
    unsealed_owned c (Some p) None h = tt
    unsealed_owned c (Some p) (Some T) h = (tt, (tt, h))

    opened_owned : (b c : Home) (v : Value) (R : Option Typ) → V! b v → Good c (becomes (option_map (λ T. enclosed b T v) R))
    opened_owned b c v None h = tt
    opened_owned b c v (Some T) h = (tt, (tt, h))

    -- a seal is the same in each home
    stays_owned : (b c : Home) (n t : Bytes) (v : Value) → V! b v → Good c (cond (is_some (inside_seal n t v)) (Goes (Evaluated (TAbs n t) v)) Wrong)
    stays_owned b c n t (VSeal d m u w) h = by (is_some (inside_seal n t (VSeal d m u w)))
      where
        by : (x : Bool) → Good c (cond x (Goes (Evaluated (TAbs n t) (VSeal d m u w))) Wrong)
        by true = (tt, h)
        by false = tt
    stays_owned b c n t _ h = tt

    name_owned : (b c : Home) (n t : Bytes) (R : Option Typ) (v : Value) (x y : Bool) → V! b v → Good c (at_name b n t R v x y)
    name_owned b c n t R v true true h = opened_owned b c v R h
    name_owned b c n t R v true false h = (tt, h)
    name_owned b c n t R v false true h = unsealed_owned c (inside_seal n t v) R (inside_owned b n t v h)
    name_owned b c n t R v false false h = stays_owned b c n t v h

    proxy_owned : (b c : Home) (T U : Typ) (s : Bool) (v : Value) → V! b v → Good c (cond s (Is (VProxy b T U v)) Wrong)
    proxy_owned b c T U true v h = h
    proxy_owned b c T U false v h = tt

    bracket_owned : (b c : Home) (T : Typ) (v : Value) → V! b v → Good c (bracket_step Coloured E b c T v)
    bracket_owned b c TInt (VInt k) h = (tt, tt)
    bracket_owned b c TBool (VBool k) h = (tt, tt)
    bracket_owned b c TStr (VStr k) h = (tt, tt)
    bracket_owned b c TUnit VUnit h = (tt, tt)
    bracket_owned b c TExn (VExn k s) h = (tt, tt)
    bracket_owned b c (TTuple Ts) (VTuple vs) h = tuple_owned c (all_enclosed b Ts vs) (all_enclosed_owned b c Ts vs h)
    bracket_owned b c (TList T) (VNil U) h = tt
    bracket_owned b c (TList T) (VCons v w) h = ((tt, (tt, h.0)), (tt, (tt, h.1)))
    bracket_owned b c (TOpt T) (VAbsent U) h = tt
    bracket_owned b c (TOpt T) (VPresent v) h = (tt, (tt, h))
    bracket_owned b c (TFun T U) v h = proxy_owned b c T U (is_function_value v) v h
    bracket_owned b c (TAbs m u) v h = name_owned b c m u (representation E m u) v (opens Coloured E b m) (opens Coloured E c m) h
    bracket_owned b c _ _ h = tt

    abbrev seen : Home → Expr → Act Expr Value
    seen c e = look Coloured z c e

    -- what a value becomes at once has no redex of its own
    alone : (o : Option Redex) → NewsOf o → NewsOf (option_or o None)
    alone o n = subst NewsOf (sym (none_else o)) n

    mutual
      conserved : (e : Expr) (c : Home) → NewsOf (redex c e) → O! true c e → Good c (seen c e)
      conserved (Int k) c n h = tt
      conserved (Boolean b) c n h = tt
      conserved (Str s) c n h = tt
      conserved Unit' c n h = tt
      conserved (Exn k) c n h = tt
      conserved (Nil T) c n h = tt
      conserved (Empty T) c n h = tt
      conserved (Lam T e) c n h = h
      conserved (Rec T U e) c n h = h
      conserved (Evaluated T v) c n h = h.1
      conserved (ExnOf k e) c n h = one_part c c (ExnOf k) (exception_of k) (redex c e) None (seen c e) (rest Coloured z e c) (alone (redex c e) n) (λ m. conserved e c m h) (λ s p. p) (λ v g m p. text_owned c k v)
      conserved (Tuple es) c n h = within_owned (AllOwned q true c) (Owned q true c) (ValuesOwned q c) (ValueOwned q c) Tuple (λ vs. Is (VTuple vs)) Raises (redex_all c es) None (look_all Coloured z c es) (rest_all Coloured z es c) (alone (redex_all c es) n) (λ m. all_conserved es c m h) (λ s p. p) (λ vs g m p. p) (λ x. tt)
      conserved (Present e) c n h = one_part c c Present (λ v. Is (VPresent v)) (redex c e) None (seen c e) (rest Coloured z e c) (alone (redex c e) n) (λ m. conserved e c m h) (λ s p. p) (λ v g m p. p)
      conserved (Cons a b) c n h =
          one_part c c (λ x. Cons x b) (λ v. part (λ y. Cons a y) (λ w. Is (VCons v w)) (seen c b)) (redex c a) (redex c b) (seen c a) (rest Coloured z a c) n (λ m. conserved a c m h.0) (λ s p. (p, h.1))
          (λ v g m p. one_part c c (λ y. Cons a y) (λ w. Is (VCons v w)) (redex c b) None (seen c b) (rest Coloured z b c) (alone (redex c b) m) (λ m'. conserved b c m' h.1) (λ s r. (h.0, r)) (λ w g m' r. (p, r)))
      conserved (App f a) c n h =
          one_part c c (λ x. App x a) (λ v. part (λ y. App f y) (λ w. apply c v w) (seen c a)) (redex c f) (option_or (redex c a) (stands_next c (App f a))) (seen c f) (rest Coloured z f c) n (λ m. conserved f c m h.0) (λ s p. (p, h.1))
          (λ v g m p. one_part c c (λ y. App f y) (λ w. apply c v w) (redex c a) (stands_next c (App f a)) (seen c a) (rest Coloured z a c) m (λ m'. conserved a c m' h.1) (λ s r. (h.0, r)) (λ w g m' r. apply_owned c v w p r))
      conserved (Let T e b) c n h = one_part c c (λ x. Let T x b) (λ v. Goes (inst 0 ((T, v) ∷ []) b)) (redex c e) (stands_next c (Let T e b)) (seen c e) (rest Coloured z e c) n (λ m. conserved e c m h.1) (λ s p. (h.0, p, h.2)) (λ v g m p. loosen (inst 0 ((T, v) ∷ []) b) c (inst_owned b c 0 ((T, v) ∷ []) ((h.0, p), tt) h.2))
      conserved (If e a b) c n h = one_part c c (λ x. If x a b) (λ v. branch v a b) (redex c e) (stands_next c (If e a b)) (seen c e) (rest Coloured z e c) n (λ m. conserved e c m h.0) (λ s p. (p, h.1, h.2)) (λ v g m p. branch_owned c v a b h.1 h.2)
      conserved (Match e arms) c n h = one_part c c (λ x. Match x arms) (λ v. or_raises match_failure_exn (chosen arms v)) (redex c e) (stands_next c (Match e arms)) (seen c e) (rest Coloured z e c) n (λ m. conserved e c m h.0) (λ s p. (p, h.1)) (λ v g m p. chosen_owned c arms v match_failure_exn h.1 p)
      conserved (Seq no_exprs) c n h = tt
      conserved (Seq (expr e no_exprs)) c n h = h.0
      conserved (Seq (expr e (expr d es))) c n h = one_part c c (λ x. Seq (expr x (expr d es))) (λ v. Goes (Seq (expr d es))) (redex c e) (stands_next c (Seq (expr e (expr d es)))) (seen c e) (rest Coloured z e c) n (λ m. conserved e c m h.0) (λ s p. (p, h.1)) (λ v g m p. h.1)
      conserved (Raise T e) c n h = one_part c c (Raise T) thrown (redex c e) (stands_next c (Raise T e)) (seen c e) (rest Coloured z e c) n (λ m. conserved e c m h) (λ s p. p) (λ v g m p. thrown_owned c v)
      conserved (Try e arms) c n h =
          within_owned (Owned q true c) (Owned q true c) (ValueOwned q c) (ValueOwned q c) (λ x. Try x arms) (λ v. Goes e) (λ x. or_raises x (chosen arms (exception_value x))) (redex c e) (stands_next c (Try e arms)) (seen c e) (rest Coloured z e c) n (λ m. conserved e c m h.0) (λ s p. (p, h.1)) (λ v g m p. h.0)
          (λ x. chosen_owned c arms (exception_value x) x h.1 tt)
      conserved (Prim k es) c n h =
          within_owned (AllOwned q true c) (Owned q true c) (ValuesOwned q c) (ValueOwned q c) (Prim k) (λ vs. answered spelled (raising TStr) z (primitive k vs)) Raises (redex_all c es) (stands_next c (Prim k es)) (look_all Coloured z c es) (rest_all Coloured z es c) n (λ m. all_conserved es c m h) (λ s p. p) (λ vs g m p. answer_owned c (primitive k vs)) (λ x. tt)
      conserved (Marshal T m e) c n h =
          one_part c c (λ x. Marshal T x e) (λ v. part (λ y. Marshal T m y) (λ w. marshal_step z c T v w) (seen c e)) (redex c m) (option_or (redex c e) (stands_next c (Marshal T m e))) (seen c m) (rest Coloured z m c) n (λ k. conserved m c k h.1) (λ s p. (h.0, p, h.2))
          (λ v g k p. one_part c c (λ y. Marshal T m y) (λ w. marshal_step z c T v w) (redex c e) (stands_next c (Marshal T m e)) (seen c e) (rest Coloured z e c) k (λ k'. conserved e c k' h.2) (λ s r. (h.0, h.1, r)) (λ w g k' r. marshal_owned c T v w))
      conserved (Unmarshal T e) c n h =
          one_part c c (Unmarshal T) (unmarshal_step Coloured z c T) (redex c e) (stands_next c (Unmarshal T e)) (seen c e) (rest Coloured z e c) n (λ m. conserved e c m h.1) (λ s p. (h.0, p))
          (λ v g m p. unmarshal_owned c T v (subst (λ a. ArrivingOwned c a (part (Unmarshal T) (unmarshal_step Coloured z c T) a)) g m))
      conserved (Own f) c n h = own_owned c f (own_field E c f) refl
      conserved (Ref j x) c n h = routed_owned c j (route E j x)
      conserved (Bracket b T e) c n h = one_part b c (Bracket b T) (bracket_step Coloured E b c T) (redex b e) (crosses c (Bracket b T e) (is_function T)) (seen b e) (rest Coloured z e b) n (λ m. conserved e b m h.1) (λ s p. (tt, p)) (λ v g m p. bracket_owned b c T v p)
      conserved (Var i) c n h = tt
      conserved (Val T v) c n h = absurd h

      all_conserved : (es : Exprs) (c : Home) → NewsOf (redex_all c es) → AllOwned q true c es → AllGood c (look_all Coloured z c es)
      all_conserved no_exprs c n h = tt
      all_conserved (expr e es) c n h =
          within_owned (Owned q true c) (AllOwned q true c) (ValueOwned q c) (ValuesOwned q c) (λ x. expr x es) (λ v. part (λ y. expr e y) (λ vs. Is (value v vs)) (look_all Coloured z c es)) Raises (redex c e) (redex_all c es) (seen c e) (rest Coloured z e c) n (λ m. conserved e c m h.0) (λ s p. (p, h.1))
          (λ v g m p. within_owned (AllOwned q true c) (AllOwned q true c) (ValuesOwned q c) (ValuesOwned q c) (λ y. expr e y) (λ vs. Is (value v vs)) Raises (redex_all c es) None (look_all Coloured z c es) (rest_all Coloured z es c) (alone (redex_all c es) m) (λ m'. all_conserved es c m' h.1) (λ s r. (h.0, r)) (λ vs g m' r. (p, r)) (λ x. tt)) (λ x. tt)

    after_owned : (N : ℕ) (a : Act Expr Value) → Good Main a → StateOwned q (after N z a)
    after_owned N (Is v) h = h
    after_owned N (Goes e) h = h
    after_owned N (Turns y e) h = h
    after_owned N (Applies e) h = by (nat_lt z.made N)
      where
        by : (b : Bool) → StateOwned q (cond b (At e (counted z)) (Over (Spent z)))
        by true = h
        by false = tt
    after_owned N (Raises x) h = tt
    after_owned N Wrong h = tt

    news_of : (o : Option Redex) → ((r : Redex) → o ≡ Some r → NewsOwned z r.home r.term) → NewsOf o
    news_of None h = tt
    news_of (Some r) h = h r refl

    -- so does the value of a term that is one
    pub value_passes : (e : Expr) (c : Home) (v : Value) → Owned q true c e → look Coloured z c e ≡ Is v → ValueOwned q c v
    value_passes e c v h s = subst (λ a. ActOwned (Owned q true c) (ValueOwned q c) a) s (conserved e c (subst NewsOf (sym (subst (λ a. AtRest a (redex c e)) s (rest Coloured z e c))) tt) h)

  -- what passes in a state, in the fields and in what is brought passes in the next state
  pub owned_kept : (N : ℕ) (z : World) (e : Expr) → FieldsOwned z.environment → Owned q true Main e → ((r : Redex) → redex Main e ≡ Some r → NewsOwned z r.home r.term) → StateOwned q (step Coloured N (At e z))
  owned_kept N z e i h n = after_owned z i N (look_main Coloured z e) (conserved z i e Main (news_of z i (redex Main e) n) h)
