-- Typing by the rules, where the type of each part is small, is kept by each step with brackets.
use Rattle.std.proofs.Common.{◌≡◌, refl, sym, ap, ap₂, ◌∙◌, subst, ℕ, zero, suc, Bool, true, false, nat_lt, cond, length, List, [], ◌∷◌, ◌++◌, Option, Some, None, ◌⊎◌, inl, inr}
use Rattle.std.specs.Prelude.{◌&&◌, option_map, option_and_then, is_some, slice_get}
use Rattle.std.specs.List.{list_all}
use Rattle.std.specs.Option.{option_or}
use mathlib.Core.Bool.{true≢false}
use Rattle.ac_types.specs.Partial.{given, agree, has, also, both_same}
use Rattle.ac_types.proofs.FirstLaws.{none≢some, some_eq, given_some}
use Rattle.ac_types.proofs.Same.{both_true, and_true, same_refl, bytes_refl}
use Rattle.ac_types.specs.Types.{Bytes, Typ, TInt, TBool, TStr, TUnit, TExn, TTuple, TList, TOpt, TFun, TAbs, TMine, Typs, no_types, typ, same, mentions, mentions_of_all, is_small}
use Rattle.ac_terms.specs.Terms.{Home, Main, In, Pattern, Expr, Int, Boolean, Str, Unit', Exn, ExnOf, Tuple, Nil, Empty, Present, Cons, Var, Own, Ref, Lam, Rec, App, Let, If, Seq, Match, Try, Raise, Prim, Marshal, Unmarshal, Val, Evaluated, Bracket, Exprs, no_exprs, expr, Arms, no_arms, arm, Value, VInt, VBool, VStr, VUnit, VExn, VTuple, VNil, VCons, VAbsent, VPresent, VLam, VRec, VProxy, VSeal, Values, value}
use Rattle.ac_terms.specs.Defs.{Environment, Field}
use Rattle.ac_types.specs.Exceptions.{has_text}
use Rattle.ac_terms.specs.PrimitiveTypes.{is_exception, primitive_type}
use Rattle.ac_terms.proofs.AllLaws.{all_left, all_right, all_append}
use Rattle.ac_code.specs.Constants.{Const, CInt, CBool, CStr, CUnit, CPart, PrimitiveAnswer, Yields, Prints, Sends, Receives, Fails, NoSense, meaning}
use Rattle.ac_outside.specs.Frames.{Frame, Whole, Bad, AtEnd, next_frame}
use Rattle.ac_rules.specs.Growth.{Grows}
use Rattle.ac_rules.specs.Plain.{packed}
use Rattle.ac_rules.specs.Views.{Coloured, view, opens, representation, is_known, are_known}
use Rattle.ac_rules.specs.Typing.{Scope, fields_of, value_in, ref_type, is_home, type_of, types_of, arm_types, variables, one_of, kept_in, type_applied, a_list, an_option, last_of}
use Rattle.ac_rules.specs.Coherent.{IsCoherent}
use Rattle.ac_rules.proofs.Growth.{grows_not, home_more, fields_same, not_shorter}
use Rattle.ac_rules.proofs.GrowthTyping.{More, map_more, then_more, kept_more, given_more, has_more, agree_more, both_more, also_more, applied_more, and_more, has_type_more, seen_more, types_more, arms_more}
use Rattle.ac_rules.proofs.Rules.{map_some, then_some, also_some, has_some, kept_some, rule-ExnOf, rule-Tuple, rule-expr, rule-Present, rule-Cons, rule-App, rule-If, rule-Let, rule-Seq, rule-Match, rule-Try, rule-Raise, rule-Prim, rule-Marshal, rule-Unmarshal, rule-Own, rule-Ref}
use Rattle.ac_meaning.specs.Acts.{Act, Is, Goes, Turns, Applies, Raises, Wrong, becomes, or_raises, within, part, Spent, State, At, Over, after, iter}
use Rattle.ac_meaning.specs.Brackets.{enclosed, all_enclosed, is_function_value, inside_seal, unsealed_term, at_name, bracket_step}
use Rattle.ac_meaning.specs.Laws.{IsTypedProgram}
use Rattle.ac_meaning.specs.Matching.{fit, chosen}
use Rattle.ac_meaning.specs.Packing.{Packing, CannotPack, Packs, packs, packing, Landing, Sinks, Lands, landing, brought, brings, marshal_step, unmarshal_step, raising}
use Rattle.ac_meaning.specs.PrimitiveSteps.{spelled, primitive, consts_of, answer_at, answered, sending, receiving, exception_of, exception_value, thrown}
use Rattle.ac_meaning.specs.Rebuilding.{rebuilt}
use Rattle.ac_meaning.specs.Reduction.{apply, branch, look, look_all, look_main, step}
use Rattle.ac_meaning.specs.References.{own_field, referred, Route, Nowhere, Once, Twice, route, routed}
use Rattle.ac_meaning.specs.Substitution.{Written, inst}
use Rattle.ac_meaning.specs.Typed.{own_type, Typed, AllTyped}
use Rattle.ac_meaning.specs.TypedStates.{IsTyped}
use Rattle.ac_meaning.specs.Worlds.{Exception, World, match_failure_exn, end_of_file_exn, bad_frame, counted, fresh, Read, with_crossing}
use Rattle.ac_meaning.proofs.Admitted.{sound, arrives}
use Rattle.ac_meaning.proofs.FromTypes.{EachIs, one_is}
use Rattle.ac_meaning.proofs.Homes.{all_seen, seen_tuple, view_shut, represented, representation_known, view_open, view_again}
use Rattle.ac_meaning.proofs.Kept.{typing_kept, starts_typed}
use Rattle.ac_meaning.proofs.KnownNames.{known_types, fields_source}
use Rattle.ac_meaning.proofs.LinkTypes.{coherent-Links}
use Rattle.ac_meaning.proofs.Safe.{AnswerOf, prim_ok, consts_ok}
use Rattle.ac_meaning.proofs.SmallTypes.{AllSmall, small_argument, small_result, small_item, small_option, small_tuple, typed_small}
use Rattle.ac_meaning.proofs.Sound.{IsLinked, own_home, value_home}
use Rattle.ac_meaning.proofs.WithinComes.{comes_within}
use Rattle.ac_meaning.proofs.WithinSources.{kept_small}
use Rattle.ac_colours.specs.RuledStates.{IsRuled}
use Rattle.ac_colours.proofs.ConstantTypes.{FailsWell, fails_well, constants_typed}
use Rattle.ac_colours.proofs.FieldTypes.{field_has_type}
use Rattle.ac_colours.proofs.Instances.{standing, inst_more, fit_written}
use Rattle.ac_colours.proofs.RebuiltTypes.{rebuilt_typed}
use Rattle.ac_colours.proofs.SmallViews.{keep}
use Rattle.ac_colours.proofs.TypedShapes.{type_in, types_in, seen_in, seen_is, is_seen, agrees, looks, values_look, no_values_look, sealed_has, proxy_has, proxy_is, value_small}

-- what is next is no fault, and what it comes to is of its type over the definitions then; an exception has a text exactly where its number wants one
abbrev Rules : {S A : Type 0} → Environment → (Environment → S → Type 0) → (Environment → A → Type 0) → Act S A → Type 0
Rules E P Q (Is v) = Q E v
Rules E P Q (Goes s) = P E s
Rules E P Q (Turns z s) = Grows E z.environment × P z.environment s
Rules E P Q (Applies s) = P E s
Rules E P Q (Raises x) = is_exception x.number x.text ≡ true
Rules E P Q Wrong = ⊥

within_rules : {S T A B : Type 0} (E : Environment) (P : Environment → S → Type 0) (P' : Environment → T → Type 0) (Q : Environment → A → Type 0) (Q' : Environment → B → Type 0) (wrap : S → T) (done : A → Act T B) (catch : Exception → Act T B) (a : Act S A) → IsCoherent E → Rules E P Q a →
    ((F : Environment) (s : S) → Grows E F → P F s → P' F (wrap s)) → ((v : A) → Q E v → Rules E P' Q' (done v)) → ((x : Exception) → is_exception x.number x.text ≡ true → Rules E P' Q' (catch x)) → Rules E P' Q' (within wrap done catch a)
within_rules E P P' Q Q' wrap done catch (Is v) i h w k x = k v h
within_rules E P P' Q Q' wrap done catch (Goes s) i h w k x = w E s (grows_not E i) h
within_rules E P P' Q Q' wrap done catch (Turns z s) i h w k x = (h.0, w z.environment s h.0 h.1)
within_rules E P P' Q Q' wrap done catch (Applies s) i h w k x = w E s (grows_not E i) h
within_rules E P P' Q Q' wrap done catch (Raises y) i h w k x = x y h
within_rules E P P' Q Q' wrap done catch Wrong i h w k x = absurd h

-- a part has become another of its type
to : {A : Type 0} {x : A} {o p : Option A} → o ≡ Some x → p ≡ Some x → More o p
to q r y h = r ∙ sym q ∙ h

stays : {A : Type 0} {o : Option A} → More o o
stays y h = h

no_field : (o : Option Field) (A : Typ) → option_map (λ (x : Field). x.term) o ≡ None → option_map (λ (x : Field). x.ty) o ≡ Some A → ⊥
no_field None A p e = none≢some e
no_field (Some x) A p e = none≢some (sym p)

-- all of a home, with variables
abbrev home_scope : Environment → Home → List Typ → Scope
home_scope E c G = record { home = c; own = length (fields_of E c); refs = length E; vars = G }

abbrev type_at : Environment → Home → List Typ → Expr → Option Typ
type_at E c G e = type_of Coloured false E (home_scope E c G) e

abbrev TermOf : Home → Typ → Environment → Expr → Type 0
TermOf c T E e = type_at E c [] e ≡ Some T

abbrev ValueOf : Home → Typ → Environment → Value → Type 0
ValueOf c T E v = type_in E c v ≡ Some T

abbrev TermsOf : Home → Typs → Environment → Exprs → Type 0
TermsOf c Ts E es = types_of Coloured false E (home_scope E c []) es ≡ Some Ts

abbrev ValuesOf : Home → Typs → Environment → Values → Type 0
ValuesOf c Ts E vs = types_in E c vs ≡ Some Ts

-- what grows
module _ (E F : Environment) (g : Grows E F) (c : Home) (i : is_home E c ≡ true) where
  far : {A : Type 0} (G : List Typ) (f : Scope → Option A) (x : A) → f (record (home_scope E c G) { refs = length F }) ≡ Some x → f (home_scope F c G) ≡ Some x
  far G f x h = subst (λ (n : ℕ). f (record { home = c; own = n; refs = length F; vars = G }) ≡ Some x) (sym (ap length (fields_same E F g.extends c i))) h

  grown_term : (G : List Typ) (e : Expr) → More (type_at E c G e) (type_at F c G e)
  grown_term G e x h = far G (λ S. type_of Coloured false F S e) x (has_type_more E F g.extends Coloured (home_scope E c G) (length F) e x (not_shorter E F g.extends) i h)

  grown_terms : (es : Exprs) → More (types_of Coloured false E (home_scope E c []) es) (types_of Coloured false F (home_scope F c []) es)
  grown_terms es x h = far [] (λ S. types_of Coloured false F S es) x (types_more Coloured false E F g.extends es (home_scope E c []) (length F) (not_shorter E F g.extends) i x h)

  grown_arms : (A : Typ) (arms : Arms) → More (arm_types Coloured false E (home_scope E c []) A arms) (arm_types Coloured false F (home_scope F c []) A arms)
  grown_arms A arms x h = far [] (λ S. arm_types Coloured false F S A arms) x (arms_more Coloured false E F g.extends arms (home_scope E c []) (length F) A (not_shorter E F g.extends) i x h)

  grown_seen : (T : Typ) → More (seen_in E c T) (seen_in F c T)
  grown_seen T = seen_more Coloured false E F g.extends c T i

module _ (E : Environment) where
  -- a bracket has the type that the home around it sees
  bracket_has : (b c : Home) (T : Typ) (e : Expr) → are_known E T ≡ true → is_home E b ≡ true → type_at E b [] e ≡ Some (view Coloured E b T) → is_small (view Coloured E c T) ≡ true → type_at E c [] (Bracket b T e) ≡ Some (view Coloured E c T)
  bracket_has b c T e k i h s =
      let same' : agree (type_at E b [] e) (seen_in E b T) ≡ true = ap₂ agree h (is_seen E b T k) ∙ same_refl (view Coloured E b T) in
      ap₂ (λ t y. given t (kept_in Coloured y)) (and_true {a = is_home E b} {b = agree (type_at E b [] e) (seen_in E b T)} i same') (is_seen E c T k) ∙ keep (view Coloured E c T) s

  -- a value in a bracket
  enclosed_has : (b c : Home) (T : Typ) (v : Value) → is_home E b ≡ true → are_known E T ≡ true → type_in E b v ≡ Some (view Coloured E b T) → is_small (view Coloured E c T) ≡ true → type_at E c [] (enclosed b T v) ≡ Some (view Coloured E c T)
  enclosed_has b c T v i k h s = bracket_has b c T (Evaluated T v) k i (standing E b (home_scope E b []) T (view Coloured E b T) v refl (is_seen E b T k) h) s

module _ (z : World) (coherent : IsCoherent z.environment) where
  abbrev E : Environment
  E = z.environment

  abbrev Good : Home → Typ → Act Expr Value → Type 0
  Good c T a = Rules E (TermOf c T) (ValueOf c T) a

  abbrev AllGood : Home → Typs → Act Exprs Values → Type 0
  AllGood c Ts a = Rules E (TermsOf c Ts) (ValuesOf c Ts) a

  abbrev sees : Home → Typ → Typ
  sees c T = view Coloured E c T

  abbrev AtHome : Home → Type 0
  AtHome c = is_home E c ≡ true

  abbrev IsKnown : Typ → Type 0
  IsKnown T = are_known E T ≡ true

  abbrev IsSmall : Typ → Type 0
  IsSmall T = is_small T ≡ true

  -- a part at type A in the whole at type T
  one_part : (c : Home) (A T : Typ) (wrap : Expr → Expr) (done : Value → Act Expr Value) (a : Act Expr Value) → Good c A a → ((F : Environment) (s : Expr) → Grows E F → TermOf c A F s → TermOf c T F (wrap s)) → ((v : Value) → ValueOf c A E v → Good c T (done v)) → Good c T (part wrap done a)
  one_part c A T wrap done a h w k = within_rules E (TermOf c A) (TermOf c T) (ValueOf c A) (ValueOf c T) wrap done Raises a coherent h w k (λ x e. e)

  text_rules : (c : Home) (k : ℕ) (v : Value) (T : Typ) → TExn ≡ T → has_text k ≡ true → ValueOf c TStr E v → Good c T (exception_of k v)
  text_rules c k v T e t h = let s = looks E v c TStr h in subst (λ x. Good c T (exception_of k x)) (sym s.1) (ap (λ b. given b (Some TExn)) t ∙ ap Some e)

  throw_rules : (c : Home) (v : Value) (T : Typ) → ValueOf c TExn E v → Good c T (thrown v)
  throw_rules c v T h = let s = looks E v c TExn h in subst (λ x. Good c T (thrown x)) (sym s.2) s.3

  branch_rules : (c : Home) (v : Value) (a b : Expr) (T : Typ) → ValueOf c TBool E v → TermOf c T E a → TermOf c T E b → Good c T (branch v a b)
  branch_rules c v a b T h p q = let s = looks E v c TBool h in subst (λ x. Good c T (branch x a b)) (sym s.1) (by s.0)
    where
      by : (x : Bool) → Good c T (branch (VBool x) a b)
      by true = p
      by false = q

  -- arms
  arm_rules : (c : Home) (p : Pattern) (t : Expr) (v : Value) (A T : Typ) (Us : List Typ) (o : Option Written) (rest : Option Expr) (x : Exception) → fit p v [] ≡ o → ValueOf c A E v → variables Coloured false E c p A ≡ Some Us → type_at E c (Us ++ []) t ≡ Some T → Good c T (or_raises x rest) →
      Good c T (or_raises x (option_or (option_map (λ ws. inst 0 ws t) o) rest))
  arm_rules c p t v A T Us None rest x q h f k r = r
  arm_rules c p t v A T Us (Some ws) rest x q h f k r =
      inst_more E (home_scope E c []) t [] (Us ++ []) ws 0 refl (fit_written E (home_scope E c []) p v [] ws A [] Us q h f tt) T k

  chosen_rules : (c : Home) (arms : Arms) (v : Value) (A T : Typ) (Ts : Typs) (x : Exception) → is_exception x.number x.text ≡ true → arm_types Coloured false E (home_scope E c []) A arms ≡ Some Ts → EachIs T Ts → ValueOf c A E v → Good c T (or_raises x (chosen arms v))
  chosen_rules c no_arms v A T Ts x e h i k = e
  chosen_rules c (arm p t rest) v A T Ts x e h i k =
      let q = also_some _ (arm_types Coloured false E (home_scope E c []) A rest) Ts h in
      let u = then_some _ (variables Coloured false E c p A) q.0 q.2 in
      let each : EachIs T (typ q.0 q.1) = subst (EachIs T) (sym q.4) i in
      arm_rules c p t v A T u.0 (fit p v []) (chosen rest v) x refl k u.1 (u.2 ∙ ap Some each.0) (chosen_rules c rest v A T q.1 x e q.3 each.1 k)

  -- primitives
  spelled_rules : (k : Const) (c : Home) (T : Typ) → AnswerOf T (Yields k) → TermOf c T E (spelled k)
  spelled_rules (CInt n) c T h = ap Some (sym h)
  spelled_rules (CBool b) c T h = ap Some (sym h)
  spelled_rules (CStr s) c T h = ap Some (sym h)
  spelled_rules CUnit c T h = ap Some (sym h)
  spelled_rules (CPart s i n) c T h = ap Some (sym h)

  sent_rules : (b : Bool) (s : Bytes) (c : Home) (T : Typ) → T ≡ TUnit → Good c T (sending spelled b s z)
  sent_rules true s c T h = (grows_not E coherent, ap Some (sym h))
  sent_rules false s c T h = refl

  -- the raise of an exception has the type in whose place it stands
  raising_rules : (c : Home) (A : Typ) (x : Exception) → IsKnown A → IsSmall (sees c A) → is_exception x.number x.text ≡ true → TermOf c (sees c A) E (raising A x)
  raising_rules c A x k m i =
      let e : TermOf c TExn E (Evaluated TExn (exception_value x)) = standing E c (home_scope E c []) TExn TExn (exception_value x) refl refl (ap (λ t. given t (Some TExn)) i) in
      ap₂ (λ a b. given (has a TExn) (kept_in Coloured b)) e (is_seen E c A k) ∙ keep (sees c A) m

  -- in the place of a string
  raised_here : (x : Exception) (c : Home) (T : Typ) → T ≡ TStr → is_exception x.number x.text ≡ true → TermOf c T E (raising TStr x)
  raised_here x c T h i = raising_rules c TStr x refl refl i ∙ ap Some (sym h)

  received_rules : (f : Frame) (c : Home) (T : Typ) → T ≡ TStr → Good c T (receiving spelled (raising TStr) f z)
  received_rules (Whole s rest) c T h = (grows_not E coherent, ap Some (sym h))
  received_rules (Bad n got) c T h = (grows_not E coherent, raised_here bad_frame c T h refl)
  received_rules AtEnd c T h = (grows_not E coherent, raised_here end_of_file_exn c T h refl)

  answer_rules : (a : PrimitiveAnswer) (c : Home) (T : Typ) → AnswerOf T a → FailsWell a → Good c T (answered spelled (raising TStr) z a)
  answer_rules (Yields k) c T h f = spelled_rules k c T h
  answer_rules (Prints s) c T h f = (grows_not E coherent, ap Some (sym h))
  answer_rules (Sends s) c T h f = sent_rules z.has_channel s c T h
  answer_rules Receives c T h f = received_rules (next_frame z.input) c T h
  answer_rules (Fails k s) c T h f = f
  answer_rules NoSense c T h f = absurd h

  -- a function
  apply_rules : (v : Value) (c : Home) (w : Value) (A T : Typ) → AtHome c → ValueOf c (TFun A T) E v → ValueOf c A E w → Good c T (apply c v w)
  apply_rules (VLam S e) c w A T i h k =
      let p = then_some _ (seen_in E c S) (TFun A T) h in
      let q = map_some (TFun p.0) (type_at E c (p.0 ∷ []) e) (TFun A T) (kept_some Coloured _ (TFun A T) p.2) in
      let f = q.2 in
      let a : p.0 ≡ A = cc in
      let b : q.0 ≡ T = cc in
      inst_more E (home_scope E c []) e [] (p.0 ∷ []) ((S, w) ∷ []) 0 refl ((p.1, k ∙ ap Some (sym a)), tt) T (q.1 ∙ ap Some b)
  apply_rules (VRec S R e) c w A T i h k =
      let p = then_some _ (seen_in E c S) (TFun A T) h in
      let q = then_some _ (seen_in E c R) (TFun A T) p.2 in
      let r = given_some (has (type_at E c (p.0 ∷ TFun p.0 q.0 ∷ []) e) q.0) (Some (TFun p.0 q.0)) (kept_some Coloured _ (TFun A T) q.2) in
      let f : TFun p.0 q.0 ≡ TFun A T = some_eq r.1 in
      let a : p.0 ≡ A = cc in
      let b : q.0 ≡ T = cc in
      let x = seen_is E c S p.0 p.1 in
      let y = seen_is E c R q.0 q.1 in
      let both : IsKnown (TFun S R) = all_append (is_known E) (mentions S) (mentions R) x.0 y.0 in
      let self : seen_in E c (TFun S R) ≡ Some (TFun p.0 q.0) = is_seen E c (TFun S R) both ∙ ap Some (ap₂ TFun x.1 y.1) in
      inst_more E (home_scope E c []) e [] (p.0 ∷ TFun p.0 q.0 ∷ []) ((S, w) ∷ (TFun S R, VRec S R e) ∷ []) 0 refl
      ((p.1, k ∙ ap Some (sym a)), ((self, h ∙ ap Some (sym f)), tt)) T (has_some _ q.0 r.0 ∙ ap Some b)
  apply_rules (VProxy b S U f) c w A T i h k =
      let p = proxy_is E b c S U f (TFun A T) h in
      let e = p.0 in
      let a : sees c S ≡ A = cc in
      let r : sees c U ≡ T = cc in
      let ks : IsKnown S = all_left (is_known E) (mentions S) (mentions U) p.1 in
      let ku : IsKnown U = all_right (is_known E) (mentions S) (mentions U) p.1 in
      let inner : IsSmall (TFun (sees b S) (sees b U)) = value_small E f b (TFun (sees b S) (sees b U)) p.2 in
      let outer : IsSmall (TFun A T) = value_small E (VProxy b S U f) c (TFun A T) h in
      let function : TermOf b (TFun (sees b S) (sees b U)) E (Evaluated (TFun S U) f) = standing E b (home_scope E b []) (TFun S U) (TFun (sees b S) (sees b U)) f refl (is_seen E b (TFun S U) p.1) p.2 in
      let argument : TermOf b (sees b S) E (enclosed c S w) = enclosed_has E c b S w i ks (k ∙ ap Some (sym a)) (small_argument (sees b S) (sees b U) inner) in
      let body : TermOf b (sees b U) E (App (Evaluated (TFun S U) f) (enclosed c S w)) = ap₂ type_applied function argument ∙ ap (λ t. given t (Some (sees b U))) (same_refl (sees b S)) in
      bracket_has E b c U (App (Evaluated (TFun S U) f) (enclosed c S w)) ku p.3 body (subst IsSmall (sym r) (small_result A T outer)) ∙ ap Some r
  apply_rules v c w A T i h k = let s : is_function_value v ≡ true = looks E v c (TFun A T) h in absurd (true≢false (sym s))

  -- fields
  own_rules : (c : Home) (f : ℕ) (A : Typ) (o : Option Expr) → own_field E c f ≡ o → own_type E c f ≡ Some A → Good c (sees c A) (becomes o)
  own_rules c f A None p e = absurd (no_field (slice_get (fields_of E c) f) A p e)
  own_rules Main f A (Some t) p e = absurd (none≢some e)
  own_rules (In j) f A (Some t) p e =
      let k = field_has_type E coherent j f t p in
      k.2 ∙ ap (λ X. Some (sees (In j) X)) (some_eq (sym k.1 ∙ e))

  -- the term of a field in the brackets of the way
  enclosed_field : (m f : ℕ) (T F : Typ) (c : Home) (o : Option Expr) → own_field E (In m) f ≡ o → own_type E (In m) f ≡ Some F → IsKnown T → sees (In m) F ≡ sees (In m) T → IsSmall (sees c T) → (t : Expr) × (o ≡ Some t) × TermOf c (sees c T) E (Bracket (In m) T t)
  enclosed_field m f T F c None p q k e s = absurd (no_field (slice_get (fields_of E (In m)) f) F p q)
  enclosed_field m f T F c (Some t) p q k e s =
      let i : TermOf (In m) (sees (In m) F) E t = own_rules (In m) f F (Some t) p q in
      (t, refl, bracket_has E (In m) c T t k (own_home Coloured E coherent (In m) f F q) (i ∙ ap Some e) s)

  -- the type of a field, as its home sees it, is small
  field_small : (m f : ℕ) (F : Typ) (o : Option Expr) → own_field E (In m) f ≡ o → own_type E (In m) f ≡ Some F → IsSmall (sees (In m) F)
  field_small m f F None p q = absurd (no_field (slice_get (fields_of E (In m)) f) F p q)
  field_small m f F (Some t) p q = (typed_small E t (home_scope E (In m) []) (sees (In m) F) (fields_source E coherent m f t p) (own_rules (In m) f F (Some t) p q)).0

  ref_rules : (c : Home) (j : ℕ) (A : Typ) → AtHome (In j) → IsKnown A → IsSmall (sees c A) → (way : Route) → IsLinked E j A way → Good c (sees c A) (becomes (routed E j way))
  ref_rules c j A o k s Nowhere l = absurd l
  ref_rules c j A o k s (Once m f T) l =
      let F = l.1.0 in
      let e : sees (In m) F ≡ sees (In m) T = l.1.2 ∙ ap (sees (In m)) (sym l.0) in
      let d = enclosed_field m f T F c (own_field E (In m) f) refl l.1.1 (subst IsKnown (sym l.0) k) e (subst (λ X. IsSmall (sees c X)) (sym l.0) s) in
      subst (λ x. Good c (sees c A) (becomes (option_map (Bracket (In m) T) x))) (sym d.1) (d.2 ∙ ap (λ X. Some (sees c X)) l.0)
  ref_rules c j A o k s (Twice m f T S) l =
      let F = l.2.0 in
      let inner : sees (In m) F ≡ sees (In m) S = sym (ap (sees (In m)) l.2.2 ∙ view_again E coherent Coloured (In m) F ((known_types E coherent).own (In m) f F l.2.1)) in
      let outer : sees (In j) S ≡ sees (In j) T = ap (sees (In j)) (l.2.2 ∙ sym l.2.3) ∙ view_again E coherent Coloured (In j) A k ∙ ap (sees (In j)) (sym l.0) in
      let there : sees (In m) F ≡ sees (In j) S = sym l.2.3 ∙ ap (sees (In j)) (sym l.0) ∙ sym outer in
      let d = enclosed_field m f S F (In j) (own_field E (In m) f) refl l.2.1 l.1 inner (subst IsSmall there (field_small m f F (own_field E (In m) f) refl l.2.1)) in
      let t = bracket_has E (In j) c T (Bracket (In m) S d.0) (subst IsKnown (sym l.0) k) o (d.2 ∙ ap Some outer) (subst (λ X. IsSmall (sees c X)) (sym l.0) s) in
      subst (λ x. Good c (sees c A) (becomes (option_map (λ e. Bracket (In j) T (Bracket (In m) S e)) x))) (sym d.1) (t ∙ ap (λ X. Some (sees c X)) l.0)

  -- packing, and arrival
  marshal_rules : (c : Home) (m v : Value) (A T : Typ) → TStr ≡ T → ValueOf c TStr E m → Good c T (marshal_step z c A m v)
  marshal_rules c m v A T e h = let s = looks E m c TStr h in subst (λ x. Good c T (marshal_step z c A x v)) (sym s.1) (by s.0 (packing z A s.0 (packed z.environment c v A)) refl)
    where
      by : (s : Bytes) (p : Packing) → packing z A s (packed z.environment c v A) ≡ p → Good c T (packs z p)
      by s (CannotPack x) q = (comes_within.refused z A s (packed z.environment c v A) x q).0
      by s (Packs r) q = (grows_not E coherent, ap Some e)

  landed_typed : (c : Home) (A : Typ) (s : Bytes) → AtHome c → IsKnown A → IsSmall (sees c A) → (l : Landing) → landing E A s ≡ l → Good c (sees c A) (brings Coloured (with_crossing (Read s) z) A (brought c A l))
  landed_typed c A s i k m (Sinks x) q = (grows_not E coherent, raising_rules c A x k m (comes_within.unfit z c A s x coherent (ap (brought c A) q)).0)
  landed_typed c A s i k m (Lands F v) q =
      let g = sound.grows E A s F v coherent q in
      let h = home_more E F g.extends c i in
      let seen : seen_in F c A ≡ Some (sees c A) = grown_seen E F g c i A (sees c A) (is_seen E c A k) in
      let y = seen_is F c A (sees c A) seen in
      let there = rebuilt_typed F g.after v c A y.0 h (sound.fits E A s F v coherent q) (sound.holds E A s F v coherent k q) (subst IsSmall (sym y.1) m) in
      (g, standing F c (home_scope F c []) A (sees c A) (rebuilt Coloured F c A v) refl seen (there ∙ ap Some y.1))

  unmarshal_rules : (c : Home) (v : Value) (A : Typ) → AtHome c → ValueOf c TStr E v → IsKnown A → IsSmall (sees c A) → Good c (sees c A) (unmarshal_step Coloured z c A v)
  unmarshal_rules c v A i h k m = let s = looks E v c TStr h in subst (λ x. Good c (sees c A) (unmarshal_step Coloured z c A x)) (sym s.1) (landed_typed c A s.0 i k m (landing E A s.0) refl)

  -- brackets
  all_enclosed_rules : (b c : Home) (Ts : Typs) (vs : Values) → AtHome b → list_all (is_known E) (mentions_of_all Ts) ≡ true → ValuesOf b (all_seen E Coloured b Ts) E vs → AllSmall (all_seen E Coloured c Ts) → (es : Exprs) × (all_enclosed b Ts vs ≡ Some es) × TermsOf c (all_seen E Coloured c Ts) E es
  all_enclosed_rules b c no_types vs i k h m = (no_exprs, ap (all_enclosed b no_types) (no_values_look E vs b h), refl)
  all_enclosed_rules b c (typ T Ts) vs i k h m =
      let s = values_look E vs b (sees b T) (all_seen E Coloured b Ts) h in
      let l = all_left (is_known E) (mentions T) (mentions_of_all Ts) k in
      let r = all_right (is_known E) (mentions T) (mentions_of_all Ts) k in
      let d = all_enclosed_rules b c Ts s.1 i r s.4 m.1 in
      (expr (enclosed b T s.0) d.0, ap (all_enclosed b (typ T Ts)) s.2 ∙ ap (option_map (expr (enclosed b T s.0))) d.1, ap₂ also (enclosed_has E b c T s.0 i l s.3 m.0) d.2)

  inside_is : (d : Home) (n t : Bytes) (w : Value) → inside_seal n t (VSeal d n t w) ≡ Some (d, w)
  inside_is d n t w = ap (λ b. cond b (Some (d, w)) None) (and_true (bytes_refl n) (bytes_refl t))

  -- n.t, whose representation is R
  name_rules : (b c : Home) (n t : Bytes) (v : Value) (R : Typ) → representation E n t ≡ Some R → IsKnown (TAbs n t) → IsSmall (sees c (TAbs n t)) → (x y : Bool) → opens Coloured E b n ≡ x → opens Coloured E c n ≡ y → AtHome b → ValueOf b (sees b (TAbs n t)) E v → Good c (sees c (TAbs n t)) (at_name b n t (Some R) v x y)
  name_rules b c n t v R r k m true true p q a h =
      let B = view_open E coherent Coloured b n t R r k p in
      let C = view_open E coherent Coloured c n t R r k q in
      enclosed_has E b c R v a (representation_known E coherent n t R r) (h ∙ ap Some B) (subst IsSmall C m) ∙ ap Some (sym C)
  name_rules b c n t v R r k m true false p q a h =
      standing E c (home_scope E c []) (TAbs n t) (sees c (TAbs n t)) (VSeal b n t v) refl (is_seen E c (TAbs n t) k) (sealed_has E b c n t v k p q h a)
  name_rules b c n t v R r k m false true p q a h =
      let s = looks E v b (TAbs n t) (h ∙ ap Some (view_shut E Coloured b n t p)) in
      let K = representation_known E coherent n t R r in
      let C = view_open E coherent Coloured c n t R r k q in
      let D = view_open E coherent Coloured s.0 n t R r k s.4 in
      let e : inside_seal n t v ≡ Some (s.0, s.1) = ap (inside_seal n t) s.2 ∙ inside_is s.0 n t s.1 in
      subst (λ o. Good c (sees c (TAbs n t)) (becomes (unsealed_term o (Some R)))) (sym e) (enclosed_has E s.0 c R s.1 s.6 K (s.5 ∙ ap Some D) (subst IsSmall C m) ∙ ap Some (sym C))
  name_rules b c n t v R r k m false false p q a h =
      let s = looks E v b (TAbs n t) (h ∙ ap Some (view_shut E Coloured b n t p)) in
      let e : inside_seal n t v ≡ Some (s.0, s.1) = ap (inside_seal n t) s.2 ∙ inside_is s.0 n t s.1 in
      let there : ValueOf c (sees c (TAbs n t)) E v = ap (type_in E c) s.2 ∙ sealed_has E s.0 c n t s.1 k s.4 q s.5 s.6 in
      subst (λ o. Good c (sees c (TAbs n t)) (cond (is_some o) (Goes (Evaluated (TAbs n t) v)) Wrong)) (sym e) (standing E c (home_scope E c []) (TAbs n t) (sees c (TAbs n t)) v refl (is_seen E c (TAbs n t) k) there)

  -- a constant
  constant_rules : (c : Home) (T : Typ) (v : Value) → IsKnown T → ValueOf c (sees c T) E v → Good c (sees c T) (Goes (Evaluated T v))
  constant_rules c T v k h = standing E c (home_scope E c []) T (sees c T) v refl (is_seen E c T k) h

  bracket_rules : (T : Typ) (b c : Home) (v : Value) → AtHome b → IsKnown T → IsSmall (sees c T) → ValueOf b (sees b T) E v → Good c (sees c T) (bracket_step Coloured E b c T v)
  bracket_rules TInt b c v i k m h = let s = looks E v b TInt h in subst (λ x. Good c TInt (bracket_step Coloured E b c TInt x)) (sym s.1) (constant_rules c TInt (VInt s.0) k refl)
  bracket_rules TBool b c v i k m h = let s = looks E v b TBool h in subst (λ x. Good c TBool (bracket_step Coloured E b c TBool x)) (sym s.1) (constant_rules c TBool (VBool s.0) k refl)
  bracket_rules TStr b c v i k m h = let s = looks E v b TStr h in subst (λ x. Good c TStr (bracket_step Coloured E b c TStr x)) (sym s.1) (constant_rules c TStr (VStr s.0) k refl)
  bracket_rules TUnit b c v i k m h = let s = looks E v b TUnit h in subst (λ x. Good c TUnit (bracket_step Coloured E b c TUnit x)) (sym s) (constant_rules c TUnit VUnit k refl)
  bracket_rules TExn b c v i k m h =
      let s = looks E v b TExn h in
      subst (λ x. Good c TExn (bracket_step Coloured E b c TExn x)) (sym s.2) (constant_rules c TExn (VExn s.0 s.1) k (ap (λ t. given t (Some TExn)) s.3))
  bracket_rules (TTuple Ts) b c v i k m h =
      let s = looks E v b (TTuple (all_seen E Coloured b Ts)) (h ∙ ap Some (seen_tuple E Coloured b Ts)) in
      let e = seen_tuple E Coloured c Ts in
      let n : IsSmall (TTuple (all_seen E Coloured c Ts)) = subst IsSmall e m in
      let d = all_enclosed_rules b c Ts s.0 i k s.2 (small_tuple (all_seen E Coloured c Ts) n) in
      subst (λ x. Good c (sees c (TTuple Ts)) (bracket_step Coloured E b c (TTuple Ts) x)) (sym s.1)
      (subst (λ o. Good c (sees c (TTuple Ts)) (becomes (option_map Tuple o))) (sym d.1) (ap (λ o. kept_in Coloured (option_map TTuple o)) d.2 ∙ keep (TTuple (all_seen E Coloured c Ts)) n ∙ ap Some (sym e)))
  bracket_rules (TList T) b c v i k m h = by (looks E v b (TList (sees b T)) h)
    where
      by : ((B : Typ) × (v ≡ VNil B)) ⊎ ((x y : Value) × (v ≡ VCons x y) × ValueOf b (sees b T) E x × ValueOf b (TList (sees b T)) E y) → Good c (TList (sees c T)) (bracket_step Coloured E b c (TList T) v)
      by (inl s) = subst (λ x. Good c (TList (sees c T)) (bracket_step Coloured E b c (TList T) x)) (sym s.1) (ap (λ y. kept_in Coloured (option_and_then a_list y)) (is_seen E c (TList T) k) ∙ keep (TList (sees c T)) m)
      by (inr s) =
          let one = enclosed_has E b c T s.0 i k s.3 (small_item (sees c T) m) in
          let rest = enclosed_has E b c (TList T) s.1 i k s.4 m in
          subst (λ x. Good c (TList (sees c T)) (bracket_step Coloured E b c (TList T) x)) (sym s.2) (ap₂ both_same (ap (option_map TList) one) rest ∙ ap (λ t. given t (Some (TList (sees c T)))) (same_refl (TList (sees c T))))
  bracket_rules (TOpt T) b c v i k m h = by (looks E v b (TOpt (sees b T)) h)
    where
      by : ((B : Typ) × (v ≡ VAbsent B)) ⊎ ((x : Value) × (v ≡ VPresent x) × ValueOf b (sees b T) E x) → Good c (TOpt (sees c T)) (bracket_step Coloured E b c (TOpt T) v)
      by (inl s) = subst (λ x. Good c (TOpt (sees c T)) (bracket_step Coloured E b c (TOpt T) x)) (sym s.1) (ap (λ y. kept_in Coloured (option_and_then an_option y)) (is_seen E c (TOpt T) k) ∙ keep (TOpt (sees c T)) m)
      by (inr s) =
          subst (λ x. Good c (TOpt (sees c T)) (bracket_step Coloured E b c (TOpt T) x)) (sym s.1)
          (ap (λ o. kept_in Coloured (option_map TOpt o)) (enclosed_has E b c T s.0 i k s.2 (small_option (sees c T) m)) ∙ keep (TOpt (sees c T)) m)
  bracket_rules (TFun T U) b c v i k m h =
      let s : is_function_value v ≡ true = looks E v b (TFun (sees b T) (sees b U)) h in
      subst (λ t. Good c (sees c (TFun T U)) (cond t (Is (VProxy b T U v)) Wrong)) (sym s) (proxy_has E b c T U v k h i m)
  bracket_rules (TAbs n t) b c v i k m h =
      let r = represented E coherent n t k in
      subst (λ o. Good c (sees c (TAbs n t)) (at_name b n t o v (opens Coloured E b n) (opens Coloured E c n))) (sym r.1) (name_rules b c n t v r.0 r.1 k m (opens Coloured E b n) (opens Coloured E c n) refl refl i h)
  bracket_rules (TMine t) b c v i k m h = absurd (looks E v b (TMine t) h)

  -- the last of a sequence
  last_behind : (U V : Typ) (Vs Ts : Typs) (T : Typ) → typ U (typ V Vs) ≡ Ts → last_of Ts ≡ Some T → last_of (typ V Vs) ≡ Some T
  last_behind U V Vs Ts T e h = (given_some (same U TUnit) (last_of (typ V Vs)) (ap last_of e ∙ h)).1

  -- what is next in a term; that it is typed without bounds says that no packed value stands in it
  mutual
    rules : (e : Expr) (c : Home) (X T : Typ) → AtHome c → Typed Coloured E e c [] X → TermOf c T E e → Good c T (look Coloured z c e)
    rules (Int n) c X T i t h = h
    rules (Boolean b) c X T i t h = h
    rules (Str s) c X T i t h = h
    rules Unit' c X T i t h = h
    rules (Exn k) c X T i t h = h
    rules (Nil A) c X T i t h = h
    rules (Empty A) c X T i t h = h
    rules (Lam A e) c X T i t h = h
    rules (Rec A B e) c X T i t h = h
    rules (Evaluated A v) c X T i t h =
        let p = given_some (agree (type_in E c v) (seen_in E c A)) (kept_in Coloured (seen_in E c A)) h in
        (agrees E c A (type_in E c v) p.0).1 ∙ ap Some (seen_is E c A T (kept_some Coloured (seen_in E c A) T p.1)).1
    rules (ExnOf k e) c X T i t h =
        let p = rule-ExnOf Coloured E (home_scope E c []) k e T h in
        one_part c TStr T (ExnOf k) (exception_of k) (look Coloured z c e) (rules e c TStr TStr i t.1 p.1)
        (λ F s g q. given_more _ _ (Some TExn) (Some TExn) (and_more (has_text k) _ (has_text k) _ (λ a. a) (λ a. has_more _ _ TStr (to p.1 q))) stays T h) (λ v q. text_rules c k v T p.2 p.0 q)
    rules (Tuple es) c X T i t h =
        let p = rule-Tuple Coloured E (home_scope E c []) es T h in
        within_rules E (TermsOf c p.0) (TermOf c T) (ValuesOf c p.0) (ValueOf c T) Tuple (λ vs. Is (VTuple vs)) Raises (look_all Coloured z c es) coherent (all_rules es c t.0 p.0 i t.2 p.1)
        (λ F s g q. kept_more Coloured _ _ (map_more TTuple _ _ (to p.1 q)) T h) (λ vs q. kept_more Coloured _ _ (map_more TTuple _ _ (to p.1 q)) T h) (λ x e. e)
    rules (Present e) c X T i t h =
        let p = rule-Present Coloured E (home_scope E c []) e T h in
        one_part c p.0 T Present (λ v. Is (VPresent v)) (look Coloured z c e) (rules e c t.0 p.0 i t.2 p.1)
        (λ F s g q. kept_more Coloured _ _ (map_more TOpt _ _ (to p.1 q)) T h) (λ v q. kept_more Coloured _ _ (map_more TOpt _ _ (to p.1 q)) T h)
    rules (Cons a b) c X T i t h =
        let p = rule-Cons Coloured E (home_scope E c []) a b T h in
        one_part c p.1.0 T (λ x. Cons x b) (λ v. part (λ y. Cons a y) (λ w. Is (VCons v w)) (look Coloured z c b)) (look Coloured z c a) (rules a c t.0 p.1.0 i t.2 p.1.1)
        (λ F s g q. both_more _ _ _ _ (map_more TList _ _ (to p.1.1 q)) (grown_term E F g c i [] b) T h)
        (λ v q. one_part c T T (λ y. Cons a y) (λ w. Is (VCons v w)) (look Coloured z c b) (rules b c (TList t.0) T i t.3 p.0)
        (λ F s g r. both_more _ _ _ _ (map_more TList _ _ (grown_term E F g c i [] a)) (to p.0 r) T h)
        (λ w r. both_more _ _ _ _ (map_more TList _ _ (to p.1.1 q)) (to p.0 r) T h))
    rules (App f a) c X T i t h =
        let p = rule-App Coloured E (home_scope E c []) f a T h in
        one_part c (TFun p.0 T) T (λ x. App x a) (λ v. part (λ y. App f y) (λ w. apply c v w) (look Coloured z c a)) (look Coloured z c f) (rules f c (TFun t.0 X) (TFun p.0 T) i t.1 p.1)
        (λ F s g q. applied_more _ _ _ _ (to p.1 q) (grown_term E F g c i [] a) T h)
        (λ v q. one_part c p.0 T (λ y. App f y) (λ w. apply c v w) (look Coloured z c a) (rules a c t.0 p.0 i t.2 p.2)
        (λ F s g r. applied_more _ _ _ _ (grown_term E F g c i [] f) (to p.2 r) T h)
        (λ w r. apply_rules v c w p.0 T i q r))
    rules (Let A e b) c X T i t h =
        let p = rule-Let Coloured E (home_scope E c []) A e b T h in
        one_part c (sees c A) T (λ x. Let A x b) (λ v. Goes (inst 0 ((A, v) ∷ []) b)) (look Coloured z c e) (rules e c (sees c A) (sees c A) i t.0 p.1)
        (λ F s g q. then_more _ _ _ _ (grown_seen E F g c i A) (λ Y r. given_more _ _ _ _ (has_more _ _ Y (to p.1 q)) (grown_term E F g c i (Y ∷ []) b)) T h)
        (λ v q. inst_more E (home_scope E c []) b [] (sees c A ∷ []) ((A, v) ∷ []) 0 refl ((is_seen E c A p.0, q), tt) T p.2)
    rules (If e a b) c X T i t h =
        let p = rule-If Coloured E (home_scope E c []) e a b T h in
        one_part c TBool T (λ x. If x a b) (λ v. branch v a b) (look Coloured z c e) (rules e c TBool TBool i t.0 p.0)
        (λ F s g q. given_more _ _ _ _ (has_more _ _ TBool (to p.0 q)) (both_more _ _ _ _ (grown_term E F g c i [] a) (grown_term E F g c i [] b)) T h) (λ v q. branch_rules c v a b T q p.1 p.2)
    rules (Match e arms) c X T i t h =
        let p = rule-Match Coloured E (home_scope E c []) e arms T h in
        one_part c p.0 T (λ x. Match x arms) (λ v. or_raises match_failure_exn (chosen arms v)) (look Coloured z c e) (rules e c t.0 p.0 i t.1 p.1)
        (λ F s g q. then_more _ _ _ _ (to p.1 q) (λ Y r. then_more one_of one_of _ _ (grown_arms E F g c i Y arms) (λ Ts k. stays)) T h)
        (λ v q. chosen_rules c arms v p.0 T p.2.0 match_failure_exn refl p.2.1 (one_is p.2.0 T p.2.2) q)
    rules (Seq no_exprs) c X T i t h = absurd (none≢some h)
    rules (Seq (expr e no_exprs)) c X T i t h =
        let p = rule-Seq Coloured E (home_scope E c []) (expr e no_exprs) T h in
        let q = rule-expr Coloured E (home_scope E c []) e no_exprs p.0 p.1 in
        let one : typ q.0 no_types ≡ p.0 = ap (typ q.0) (some_eq q.3) ∙ q.4 in
        q.2 ∙ ap last_of one ∙ p.2
    rules (Seq (expr e (expr d es))) c X T i t h =
        let a = t.1 in
        let p = rule-Seq Coloured E (home_scope E c []) (expr e (expr d es)) T h in
        let q = rule-expr Coloured E (home_scope E c []) e (expr d es) p.0 p.1 in
        let r = rule-expr Coloured E (home_scope E c []) d es q.1 q.3 in
        one_part c q.0 T (λ x. Seq (expr x (expr d es))) (λ v. Goes (Seq (expr d es))) (look Coloured z c e) (rules e c a.0 q.0 i a.3 q.2)
        (λ F s g k. then_more last_of last_of _ _ (also_more _ _ _ _ (to q.2 k) (grown_terms E F g c i (expr d es))) (λ Ts m. stays) T h)
        (λ v k. ap (option_and_then last_of) q.3 ∙ ap last_of (sym r.4) ∙ last_behind q.0 r.0 r.1 p.0 T (ap (typ q.0) r.4 ∙ q.4) p.2)
    rules (Raise A e) c X T i t h =
        let p = rule-Raise Coloured E (home_scope E c []) A e T h in
        one_part c TExn T (Raise A) thrown (look Coloured z c e) (rules e c TExn TExn i t.1 p.0)
        (λ F s g q. given_more _ _ _ _ (has_more _ _ TExn (to p.0 q)) (kept_more Coloured _ _ (grown_seen E F g c i A)) T h) (λ v q. throw_rules c v T q)
    rules (Try e arms) c X T i t h =
        let p = rule-Try Coloured E (home_scope E c []) e arms T h in
        within_rules E (TermOf c T) (TermOf c T) (ValueOf c T) (ValueOf c T) (λ x. Try x arms) (λ v. Goes e) (λ x. or_raises x (chosen arms (exception_value x))) (look Coloured z c e) coherent (rules e c X T i t.0 p.0)
        (λ F s g q. both_more _ _ _ _ (to p.0 q) (then_more one_of one_of _ _ (grown_arms E F g c i TExn arms) (λ Ts k. stays)) T h) (λ v q. p.0)
        (λ x q. chosen_rules c arms (exception_value x) TExn T p.1.0 x q p.1.1 (one_is p.1.0 T p.1.2) (ap (λ y. given y (Some TExn)) q))
    rules (Prim k es) c X T i t h =
        let p = rule-Prim Coloured E (home_scope E c []) k es T h in
        within_rules E (TermsOf c p.0) (TermOf c T) (ValuesOf c p.0) (ValueOf c T) (Prim k) (λ vs. answered spelled (raising TStr) z (primitive k vs)) Raises (look_all Coloured z c es) coherent (all_rules es c t.0 p.0 i t.1 p.1)
        (λ F s g q. then_more (primitive_type k) (primitive_type k) _ _ (to p.1 q) (λ Ts m. stays) T h)
        (λ vs q.
        let r = prim_ok k p.0 T p.2 in
        let s = consts_ok Coloured E p.0 r.0 vs c (constants_typed E p.0 r.0 vs c q) in
        answer_rules (primitive k vs) c T (subst (λ o. AnswerOf T (answer_at (meaning k) o)) (sym s.1) (r.1 s.0 s.2)) (fails_well k (consts_of vs))) (λ x e. e)
    rules (Marshal A m e) c X T i t h =
        let p = rule-Marshal Coloured E (home_scope E c []) A m e T h in
        one_part c TStr T (λ x. Marshal A x e) (λ v. part (λ y. Marshal A m y) (λ w. marshal_step z c A v w) (look Coloured z c e)) (look Coloured z c m) (rules m c TStr TStr i t.1 p.0)
        (λ F s g q. given_more _ _ (Some TStr) (Some TStr) (and_more _ _ _ _ (has_more _ _ TStr (to p.0 q)) (λ a. agree_more _ _ _ _ (grown_term E F g c i [] e) (grown_seen E F g c i A))) stays T h)
        (λ v q. one_part c (sees c A) T (λ y. Marshal A m y) (λ w. marshal_step z c A v w) (look Coloured z c e) (rules e c (sees c A) (sees c A) i t.2 p.2)
        (λ F s g r. given_more _ _ (Some TStr) (Some TStr) (and_more _ _ _ _ (has_more _ _ TStr (grown_term E F g c i [] m)) (λ a. agree_more _ _ _ _ (to p.2 r) (grown_seen E F g c i A))) stays T h)
        (λ w r. marshal_rules c v w A T p.3 q))
    rules (Unmarshal A e) c X T i t h =
        let p = rule-Unmarshal Coloured E (home_scope E c []) A e T h in
        let s : IsSmall T = kept_small (seen_in E c A) T (given_some (has (type_at E c [] e) TStr) _ h).1 in
        one_part c TStr T (Unmarshal A) (unmarshal_step Coloured z c A) (look Coloured z c e) (rules e c TStr TStr i t.1 p.0)
        (λ F s g q. given_more _ _ _ _ (has_more _ _ TStr (to p.0 q)) (kept_more Coloured _ _ (grown_seen E F g c i A)) T h)
        (λ v q. subst (λ Y. Good c Y (unmarshal_step Coloured z c A v)) p.2 (unmarshal_rules c v A i q p.1 (subst IsSmall (sym p.2) s)))
    rules (Own f) c X T i t h =
        let p = rule-Own Coloured E (home_scope E c []) f T h in
        let own : own_type E c f ≡ Some p.0 = (given_some (nat_lt f (length (fields_of E c))) _ p.1).1 in
        subst (λ Y. Good c Y (becomes (own_field E c f))) p.2 (own_rules c f p.0 (own_field E c f) refl own)
    rules (Ref j x) c X T i t h =
        let p = rule-Ref Coloured E (home_scope E c []) j x T h in
        let v : value_in E j x ≡ Some p.0 = (given_some (nat_lt j (length E)) (value_in E j x) p.1).1 in
        let s : IsSmall T = kept_small (option_map (sees c) (ref_type E (home_scope E c []) j x)) T h in
        subst (λ Y. Good c Y (becomes (referred E j x))) p.2
        (ref_rules c j p.0 (value_home Coloured E coherent j x p.0 v) ((known_types E coherent).values j x p.0 v) (subst IsSmall (sym p.2) s) (route E j x) ((coherent-Links E coherent).links j x p.0 v))
    rules (Bracket b A e) c X T i t h =
        let p = given_some (is_home E b && agree (type_at E b [] e) (seen_in E b A)) (kept_in Coloured (seen_in E c A)) h in
        let q = both_true (is_home E b) (agree (type_at E b [] e) (seen_in E b A)) p.0 in
        let a = agrees E b A (type_at E b [] e) q.1 in
        let s = kept_small (seen_in E c A) T p.1 in
        let y = seen_is E c A T (kept_some Coloured (seen_in E c A) T p.1) in
        within_rules E (TermOf b (sees b A)) (TermOf c T) (ValueOf b (sees b A)) (ValueOf c T) (Bracket b A) (bracket_step Coloured E b c A) Raises (look Coloured z b e) coherent (rules e b (sees b A) (sees b A) q.0 t.2 a.1)
        (λ F s g r. given_more _ _ _ _ (and_more (is_home E b) _ (is_home F b) _ (home_more E F g.extends b) (λ m. agree_more _ _ _ _ (to a.1 r) (grown_seen E F g b q.0 A))) (kept_more Coloured _ _ (grown_seen E F g c i A)) T h)
        (λ v r. subst (λ Y. Good c Y (bracket_step Coloured E b c A v)) y.1 (bracket_rules A b c v q.0 a.0 (subst IsSmall (sym y.1) s) r)) (λ x k. k)
    rules (Var k) c X T i t h = absurd (none≢some h)
    rules (Val A v) c X T i t h = absurd t

    all_rules : (es : Exprs) (c : Home) (Xs Ts : Typs) → AtHome c → AllTyped Coloured E es c [] Xs → TermsOf c Ts E es → AllGood c Ts (look_all Coloured z c es)
    all_rules no_exprs c Xs Ts i t h = h
    all_rules (expr e es) c Xs Ts i t h =
        let p = rule-expr Coloured E (home_scope E c []) e es Ts h in
        within_rules E (TermOf c p.0) (TermsOf c Ts) (ValueOf c p.0) (ValuesOf c Ts) (λ x. expr x es) (λ v. part (λ y. expr e y) (λ vs. Is (value v vs)) (look_all Coloured z c es)) Raises (look Coloured z c e) coherent (rules e c t.0 p.0 i t.3 p.2)
        (λ F s g q. also_more _ _ _ _ (to p.2 q) (grown_terms E F g c i es) Ts h)
        (λ v q. within_rules E (TermsOf c p.1) (TermsOf c Ts) (ValuesOf c p.1) (ValuesOf c Ts) (λ y. expr e y) (λ vs. Is (value v vs)) Raises (look_all Coloured z c es) coherent (all_rules es c t.1 p.1 i t.4 p.3)
        (λ F s g r. also_more _ _ _ _ (grown_term E F g c i [] e) (to p.3 r) Ts h) (λ vs r. also_more _ _ _ _ (to p.2 q) (to p.3 r) Ts h) (λ x k. k)) (λ x k. k)

  after_rules : (N : ℕ) (T : Typ) (a : Act Expr Value) → Good Main T a → IsRuled T (after N z a)
  after_rules N T (Is v) h = h
  after_rules N T (Goes e) h = h
  after_rules N T (Turns y e) h = h.1
  after_rules N T (Applies e) h = by (nat_lt z.made N)
    where
      by : (b : Bool) → IsRuled T (cond b (At e (counted z)) (Over (Spent z)))
      by true = h
      by false = tt
  after_rules N T (Raises x) h = h
  after_rules N T Wrong h = absurd h

pub bounds_kept : (T U : Typ) (N : ℕ) (s : State Expr Value) → IsTyped Coloured T s → IsRuled U s → IsRuled U (step Coloured N s)
bounds_kept T U N (At e z) t h = after_rules z t.0 N U (look_main Coloured z e) (rules z t.0 e Main T U refl t.1 h)
bounds_kept T U N (Over o) t h = h

-- so in each state of a typed program's run
runs : (T : Typ) (N k : ℕ) (s : State Expr Value) → IsTyped Coloured T s → IsRuled T s → IsRuled T (iter (step Coloured N) k s)
runs T N zero s t h = h
runs T N (suc k) s t h = runs T N k (step Coloured N s) (typing_kept arrives Coloured T N s t) (bounds_kept T T N s t h)

pub bounds_hold : (E : Environment) (e : Expr) (T : Typ) → IsTypedProgram E e T → (input : Bytes) (sends : Bool) (N k : ℕ) → IsRuled T (iter (step Coloured N) k (At e (fresh E input sends)))
bounds_hold E e T p input sends N k = runs T N k (At e (fresh E input sends)) (starts_typed E e T p input sends) p.typed
