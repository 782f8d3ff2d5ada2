-- What is typed never comes to what has no meaning: the interpreter, application by application, while the definitions grow.
use Rattle.std.proofs.Common.{◌≡◌, refl, sym, ap, ◌∙◌, subst, ℕ, zero, suc, Bool, true, false, cond, nat_lt, List, [], ◌∷◌, ◌++◌, Option, Some, None}
use mathlib.Core.Bool.{true≢false}
use Rattle.ac_types.specs.Types.{Bytes, Typ, TBool, TStr, TExn, TList, TFun, Typs, typ, mentions}
use Rattle.ac_terms.specs.Terms.{Home, Expr, Int, Boolean, Str, Unit', Exn, ExnOf, Tuple, Nil, Empty, Present, Cons, Var, Own, Ref, Lam, Rec, App, Let, If, Seq, Match, Try, Raise, Prim, Marshal, Unmarshal, Val, Evaluated, Bracket, Exprs, no_exprs, expr, Arms, no_arms, arm, Value, VStr, VTuple, VCons, VPresent, VLam, VRec, VProxy, Values, value}
use Rattle.ac_terms.specs.Defs.{Environment}
use Rattle.ac_rules.specs.Plain.{packed}
use Rattle.ac_rules.specs.Views.{Mode, is_known}
use Rattle.ac_rules.specs.Coherent.{IsCoherent}
use Rattle.ac_terms.proofs.AllLaws.{all_append}
use Rattle.ac_meaning.specs.Worlds.{Exception, World, match_failure_exn, counted, Read, with_crossing}
use Rattle.ac_meaning.specs.Substitution.{Written}
use Rattle.ac_meaning.specs.Matching.{fit}
use Rattle.ac_meaning.specs.PrimitiveSteps.{answer_at, primitive, exception_value}
use Rattle.ac_code.specs.Constants.{meaning}
use Rattle.ac_meaning.specs.Brackets.{is_function_value}
use Rattle.ac_meaning.specs.References.{route}
use Rattle.ac_rules.specs.Growth.{Grows}
use Rattle.ac_meaning.specs.Packing.{Packing, CannotPack, Packs, Arrival, Unfit, Brings, packing, arrival}
use Rattle.ac_meaning.proofs.Results.{Result, Spending, M, give, raise, follow, lift}
use Rattle.ac_meaning.proofs.Eval.{with_text, own_by, ref_by, opened, branching, throws, answering, constant, fitted, no_more, packed_as, marshals, arrived_as, unmarshals, across, crossing, eval, eval_all, eval_rest, eval_arms, calling, depth}
use Rattle.ac_meaning.proofs.Arrivals.{Arrives}
use Rattle.ac_rules.proofs.Growth.{grows_not, known_more, home_more, view_same}
use Rattle.ac_meaning.proofs.GrowthTyped.{typed_more, all_typed_more, arms_typed_more, value_typed_more, written_more}
use Rattle.ac_meaning.specs.Typed.{as_seen, Known, IsHome, IsLast, Typed, AllTyped, ArmsTyped, ValuesTyped, WrittenTyped}
use Rattle.ac_meaning.proofs.Homes.{seen_fun}
use Rattle.ac_meaning.proofs.KnownNames.{known_types, fields_typed}
use Rattle.ac_meaning.proofs.LinkTypes.{coherent-Links}
use Rattle.ac_meaning.proofs.Shapes.{IsOf, shape, inst_typed, fit_typed}
use Rattle.ac_meaning.proofs.Sound.{cross_ok, text_ok, field_value_ok, reference_ok}
use Rattle.ac_meaning.proofs.Safe.{AnswerOf, prim_ok, consts_ok, Ok, Of, then_ok, seq_ok, lift_ok, answer_ok, throw_ok, branch_ok, found_ok}

module _ (arrives : Arrives) (mode : Mode) where
  abbrev pub Is : Home → Typ → Environment → Value → Type 0
  Is c T = Of mode c T

  abbrev pub Are : Home → Typs → Environment → Values → Type 0
  Are c Ts E vs = ValuesTyped mode E vs c Ts

  -- a home of coherent definitions
  abbrev pub At : World → Home → Type 0
  At z c = IsCoherent z.environment × IsHome mode z.environment c

  abbrev pub Good : World → Home → Typ → Result Value → Type 0
  Good z c T r = Ok z.environment (Is c T) r

  abbrev sees : World → Home → Typ → Typ
  sees z c T = as_seen mode z.environment c T

  -- what stays as the definitions grow
  module _ (z y : World) (g : Grows z.environment y.environment) (c : Home) (i : At z c) where
    pub later : At y c
    later = (g.after, home_more z.environment y.environment g.extends c i.1)

    pub term_later : (t : Expr) (G : List Typ) (T : Typ) → Typed mode z.environment t c G T → Typed mode y.environment t c G T
    term_later t G T h = typed_more mode z.environment y.environment g.extends t c G T i.1 h

    pub terms_later : (ts : Exprs) (G : List Typ) (Ts : Typs) → AllTyped mode z.environment ts c G Ts → AllTyped mode y.environment ts c G Ts
    terms_later ts G Ts h = all_typed_more mode z.environment y.environment g.extends ts c G Ts i.1 h

    pub arms_later : (arms : Arms) (G : List Typ) (A T : Typ) → ArmsTyped mode z.environment arms c G A T → ArmsTyped mode y.environment arms c G A T
    arms_later arms G A T h = arms_typed_more mode z.environment y.environment g.extends arms c G A T i.1 h

    pub value_later : (v : Value) (T : Typ) → Is c T z.environment v → Is c T y.environment v
    value_later v T h = value_typed_more mode z.environment y.environment g.extends v c T i.1 h

    pub written_later : (us : Written) (G : List Typ) → WrittenTyped mode z.environment us c G → WrittenTyped mode y.environment us c G
    written_later us G h = written_more mode z.environment y.environment g.extends us c G i.1 h

    pub known_later : (A : Typ) → Known mode z.environment A → Known mode y.environment A
    known_later A h = known_more z.environment y.environment g.extends A h

    pub seen_later : (A : Typ) → Known mode z.environment A → sees z c A ≡ sees y c A
    seen_later A h = sym (view_same z.environment y.environment g.extends mode c A i.1 h)

  -- across a bracket
  pub across_ok : (T : Typ) (b c : Home) (v : Value) (z : World) → Known mode z.environment T → At z b → Is b (sees z b T) z.environment v → Good z c (sees z c T) (across mode T b c v z)
  across_ok T b c v z k i h = lift_ok (Is c (sees z c T)) (crossing mode z.environment T b c v) z i.0 (cross_ok mode z.environment i.0 T k b c v i.1 h)

  -- across a bracket, at a type that was seen before
  pub across_later : (z y : World) (g : Grows z.environment y.environment) (T U : Typ) (b c : Home) (v : Value) → Known mode z.environment T → At z b → At z c → U ≡ sees z c T → Is b (sees z b T) y.environment v → Good y c U (across mode T b c v y)
  across_later z y g T U b c v k i j e h =
      subst (λ X. Good y c X (across mode T b c v y)) (sym (e ∙ seen_later z y g c j T k))
      (across_ok T b c v y (known_later z y g b i T k) (later z y g b i) (subst (λ X. Is b X y.environment v) (seen_later z y g b i T k) h))

  -- a function
  pub callable : (E : Environment) (v : Value) (c : Home) (A B : Typ) → Is c (TFun A B) E v → is_function_value v ≡ true
  callable E v c A B h = shape mode E v c (TFun A B) (TFun A B) refl h

  -- packing, and arrival
  pub marshal_ok : (m v : Value) (c : Home) (A T : Typ) (z : World) → IsCoherent z.environment → Is c TStr z.environment m → T ≡ TStr → Good z c T (marshals c A m v z)
  marshal_ok m v c A T z i h e =
      let s = shape mode z.environment m c TStr TStr refl h in
      subst (λ x. Good z c T (marshals c A x v z)) (sym s.1) (by (packing z A s.0 (packed z.environment c v A)))
    where
      by : (p : Packing) → Good z c T (packed_as VStr p z)
      by (CannotPack x) = grows_not z.environment i
      by (Packs s) = (grows_not z.environment i, e)

  pub unmarshal_ok : (s : Value) (c : Home) (A T : Typ) (z : World) → At z c → Is c TStr z.environment s → Known mode z.environment A → T ≡ sees z c A → Good z c T (unmarshals mode c A s z)
  unmarshal_ok s c A T z i h k e =
      let x = shape mode z.environment s c TStr TStr refl h in
      subst (λ x. Good z c T (unmarshals mode c A x z)) (sym x.1) (by x.0 (arrival z c A x.0) refl)
    where
      by : (x : Bytes) (a : Arrival) → arrival z c A x ≡ a → Good z c T (arrived_as (λ v w. v mode) a (with_crossing (Read x) z))
      by x (Unfit y) q = grows_not z.environment i.0
      by x (Brings F v w) q =
          let g = arrives.grows.grow z c A x F v w i.0 q in
          (g, subst (λ X. IsOf mode F c X (v mode)) (view_same z.environment F g.extends mode c A i.1 k ∙ sym e) (arrives.typed mode z c A x F v w i.0 i.1 k q))

  module _ (N : ℕ) (next : Expr → Home → Written → M Value) (go : (t : Expr) (c : Home) (G : List Typ) (T : Typ) (us : Written) (z : World) → At z c → WrittenTyped mode z.environment us c G → Typed mode z.environment t c G T → Good z c T (next t c us z)) where
    allowed : (b : Bool) (c : Home) (T : Typ) (r : Result Value) (z : World) → Good z c T r → Good z c T (cond b r (Spending z))
    allowed true c T r z h = h
    allowed false c T r z h = tt

    pub call_ok : (v : Value) (c : Home) (w : Value) (A B : Typ) (z : World) → At z c → Is c (TFun A B) z.environment v → Is c A z.environment w → Good z c B (calling mode v N next c w z)
    call_ok (VLam S e) c w A B z i h k =
        let d = h.1 in
        let a : A ≡ sees z c S = cc in
        let b : h.0 ≡ B = cc in
        let one : WrittenTyped mode z.environment ((S, w) ∷ []) c (sees z c S ∷ []) = ([], refl, subst (λ X. Is c X z.environment w) a k, refl, h.3) in
        allowed (nat_lt z.made N) c B _ z (subst (λ X. Good z c X (next e c ((S, w) ∷ []) (counted z))) b (go e c (sees z c S ∷ []) h.0 ((S, w) ∷ []) (counted z) i one h.2))
    call_ok (VRec S R e) c w A B z i h k =
        let d = h.0 in
        let a : A ≡ sees z c S = cc in
        let b : sees z c R ≡ B = cc in
        let self = VRec S R e in
        let both : Known mode z.environment (TFun S R) = all_append (is_known z.environment) (mentions S) (mentions R) h.2 h.3 in
        let two : WrittenTyped mode z.environment ((S, w) ∷ (TFun S R, self) ∷ []) c (sees z c S ∷ TFun (sees z c S) (sees z c R) ∷ []) =
        (TFun (sees z c S) (sees z c R) ∷ [], refl, subst (λ X. Is c X z.environment w) a k, ([], ap (λ X. X ∷ []) (sym (seen_fun z.environment mode c S R)), (seen_fun z.environment mode c S R, h.1, h.2, h.3), refl, both), h.2) in
        allowed (nat_lt z.made N) c B _ z (subst (λ X. Good z c X (next e c ((S, w) ∷ (TFun S R, self) ∷ []) (counted z))) b (go e c (sees z c S ∷ TFun (sees z c S) (sees z c R) ∷ []) (sees z c R) ((S, w) ∷ (TFun S R, self) ∷ []) (counted z) i two h.1))
    call_ok (VProxy b S T f) c w A B z i h k =
        let d = h.0 in
        let a : A ≡ sees z c S = cc in
        let t : B ≡ sees z c T = cc in
        let j : At z b = (i.0, h.4) in
        seq_ok z.environment (Is b (sees z b T)) (Is c B) (follow (across mode S c b w) (λ x. calling mode f N next b x) z) (λ y. across mode T b c y)
        (seq_ok z.environment (Is b (sees z b S)) (Is b (sees z b T)) (across mode S c b w z) (λ x. calling mode f N next b x) (across_ok S c b w z h.1 i (subst (λ X. Is c X z.environment w) a k))
        (λ x y g p. call_ok f b x (sees z b S) (sees z b T) y (later z y g b j) (value_later z y g b j f (TFun (sees z b S) (sees z b T)) h.3) p))
        (λ u y g p. across_later z y g T B b c u h.2 j i t p)
    call_ok v c w A B z i h k = absurd (true≢false (sym (callable z.environment v c A B h)))

    abbrev apps : Home → Value → Value → M Value
    apps c v w = calling mode v N next c w

    -- one arm, by what its pattern gives
    fitted_ok : (o : Option Written) (c : Home) (T : Typ) (f : Written → M Value) (m : M Value) (z : World) → ((ws : Written) → o ≡ Some ws → Good z c T (f ws z)) → Good z c T (m z) → Good z c T (fitted o f m z)
    fitted_ok None c T f m z h k = k
    fitted_ok (Some ws) c T f m z h k = h ws refl

    mutual
      pub sound : (t : Expr) (c : Home) (G : List Typ) (T : Typ) (us : Written) (z : World) → At z c → WrittenTyped mode z.environment us c G → Typed mode z.environment t c G T → Good z c T (eval mode t apps c us z)
      sound (Int n) c G T us z i e h = (grows_not z.environment i.0, h)
      sound (Boolean b) c G T us z i e h = (grows_not z.environment i.0, h)
      sound (Str s) c G T us z i e h = (grows_not z.environment i.0, h)
      sound Unit' c G T us z i e h = (grows_not z.environment i.0, h)
      sound (Exn x) c G T us z i e h = (grows_not z.environment i.0, h)
      sound (ExnOf x t) c G T us z i e h =
          subst (λ X. Good z c X (eval mode (ExnOf x t) apps c us z)) (sym h.0)
          (seq_ok z.environment (Is c TStr) (Is c TExn) (eval mode t apps c us z) (λ v. lift (with_text x v)) (sound t c G TStr us z i e h.1)
          (λ v y g p. lift_ok (Is c TExn) (with_text x v) y g.after (text_ok mode y.environment g.after (known_types y.environment g.after) (fields_typed y.environment g.after mode) (coherent-Links y.environment g.after) x v c p)))
      sound (Tuple ts) c G T us z i e h = seq_ok z.environment (Are c h.0) (Is c T) (eval_all mode ts apps c us z) (λ ws. give (VTuple ws)) (all_sound ts c G h.0 us z i e h.2) (λ ws y g p. (grows_not y.environment g.after, (h.0, h.1, p)))
      sound (Nil A) c G T us z i e h = (grows_not z.environment i.0, h)
      sound (Empty A) c G T us z i e h = (grows_not z.environment i.0, h)
      sound (Present t) c G T us z i e h = seq_ok z.environment (Is c h.0) (Is c T) (eval mode t apps c us z) (λ v. give (VPresent v)) (sound t c G h.0 us z i e h.2) (λ v y g p. (grows_not y.environment g.after, (h.0, h.1, p)))
      sound (Cons a b) c G T us z i e h =
          seq_ok z.environment (Is c h.0) (Is c T) (eval mode a apps c us z) (λ v. follow (eval mode b apps c us) (λ w. give (VCons v w))) (sound a c G h.0 us z i e h.2)
          (λ v y g p.
          let l = later z y g c i in
          seq_ok y.environment (Is c (TList h.0)) (Is c T) (eval mode b apps c us y) (λ w. give (VCons v w)) (sound b c G (TList h.0) us y l (written_later z y g c i us G e) (term_later z y g c i b G (TList h.0) h.3))
          (λ w x f q. (grows_not x.environment f.after, (h.0, h.1, value_later y x f c l v h.0 p, q))))
      sound (Var j) c G T us z i e h = found_ok mode c us G j T z i.0 e h
      sound (Own f) c G T us z i e h =
          let E = z.environment in
          subst (λ X. Good z c X (eval mode (Own f) apps c us z)) (sym h.2)
          (lift_ok (Is c (sees z c h.0)) (own_by mode E (opened mode E) c f) z i.0 (field_value_ok mode E i.0 (known_types E i.0) (fields_typed E i.0 mode) (coherent-Links E i.0) c f h.0 h.1))
      sound (Ref j x) c G T us z i e h =
          let E = z.environment in
          subst (λ X. Good z c X (eval mode (Ref j x) apps c us z)) (sym h.2)
          (lift_ok (Is c (sees z c h.0)) (ref_by mode E (opened mode E) c j (route E j x)) z i.0 (reference_ok mode E i.0 (known_types E i.0) (fields_typed E i.0 mode) (coherent-Links E i.0) c j x h.0 h.1))
      sound (Lam A t) c G T us z i e h = (grows_not z.environment i.0, (h.0, h.1, inst_typed mode z.environment t c (sees z c A ∷ []) G h.0 us 1 refl e h.2, h.3))
      sound (Rec A B t) c G T us z i e h = (grows_not z.environment i.0, (h.0, inst_typed mode z.environment t c (sees z c A ∷ TFun (sees z c A) (sees z c B) ∷ []) G (sees z c B) us 2 refl e h.1, h.2, h.3))
      sound (App f a) c G T us z i e h =
          seq_ok z.environment (Is c (TFun h.0 T)) (Is c T) (eval mode f apps c us z) (λ v. follow (eval mode a apps c us) (apps c v)) (sound f c G (TFun h.0 T) us z i e h.1)
          (λ v y g p.
          let l = later z y g c i in
          seq_ok y.environment (Is c h.0) (Is c T) (eval mode a apps c us y) (apps c v) (sound a c G h.0 us y l (written_later z y g c i us G e) (term_later z y g c i a G h.0 h.2))
          (λ w x k q. call_ok v c w h.0 T x (later y x k c l) (value_later y x k c l v (TFun h.0 T) p) q))
      sound (Let A t b) c G T us z i e h =
          seq_ok z.environment (Is c (sees z c A)) (Is c T) (eval mode t apps c us z) (λ v. eval mode b apps c ((A, v) ∷ us)) (sound t c G (sees z c A) us z i e h.0)
          (λ v y g p.
          let s = seen_later z y g c i A h.2 in
          sound b c (sees z c A ∷ G) T ((A, v) ∷ us) y (later z y g c i) (G, ap (λ X. X ∷ G) s, subst (λ X. Is c X y.environment v) s p, written_later z y g c i us G e, known_later z y g c i A h.2) (term_later z y g c i b (sees z c A ∷ G) T h.1))
      sound (If t a b) c G T us z i e h =
          seq_ok z.environment (Is c TBool) (Is c T) (eval mode t apps c us z) (λ v. branching v (eval mode a apps c us) (eval mode b apps c us)) (sound t c G TBool us z i e h.0)
          (λ v y g p.
          let l = later z y g c i in
          let w = written_later z y g c i us G e in
          branch_ok mode v c T (eval mode a apps c us) (eval mode b apps c us) y p (sound a c G T us y l w (term_later z y g c i a G T h.1)) (sound b c G T us y l w (term_later z y g c i b G T h.2)))
      sound (Seq no_exprs) c G T us z i e h = absurd (subst (λ X. IsLast X T) h.1 h.2)
      sound (Seq (expr t ts)) c G T us z i e h =
          seq_ok z.environment (Is c h.1.0) (Is c T) (eval mode t apps c us z) (λ v. eval_rest mode ts apps c us v) (sound t c G h.1.0 us z i e h.1.3)
          (λ v y g p. rest_sound ts c G h.1.0 h.1.1 T us v y (later z y g c i) (written_later z y g c i us G e) (terms_later z y g c i ts G h.1.1 h.1.4) (subst (λ X. IsLast X T) h.1.2 h.2) p)
      sound (Match t arms) c G T us z i e h =
          seq_ok z.environment (Is c h.0) (Is c T) (eval mode t apps c us z) (λ v. eval_arms mode arms apps c us v (raise match_failure_exn)) (sound t c G h.0 us z i e h.1)
          (λ v y g p. arms_sound arms c G h.0 T us v match_failure_exn y (later z y g c i) (written_later z y g c i us G e) (arms_later z y g c i arms G h.0 T h.2) p)
      sound (Try t arms) c G T us z i e h =
          then_ok z.environment (Is c T) (Is c T) (eval mode t apps c us z) give (λ x. eval_arms mode arms apps c us (exception_value x) (raise x)) (sound t c G T us z i e h.0) (λ v y g p. (grows_not y.environment g.after, p))
          (λ x y g. arms_sound arms c G TExn T us (exception_value x) x y (later z y g c i) (written_later z y g c i us G e) (arms_later z y g c i arms G TExn T h.1) refl)
      sound (Raise A t) c G T us z i e h = seq_ok z.environment (Is c TExn) (Is c T) (eval mode t apps c us z) throws (sound t c G TExn us z i e h.1) (λ v y g p. throw_ok mode v c T y g.after p)
      sound (Prim k ts) c G T us z i e h =
          seq_ok z.environment (Are c h.0) (Is c T) (eval_all mode ts apps c us z) (λ ws. answering constant (primitive k ws)) (all_sound ts c G h.0 us z i e h.1)
          (λ ws y g p.
          let r = prim_ok k h.0 T h.2 in
          let s = consts_ok mode y.environment h.0 r.0 ws c p in
          answer_ok mode (primitive k ws) c T y g.after (subst (λ o. AnswerOf T (answer_at (meaning k) o)) (sym s.1) (r.1 s.0 s.2)))
      sound (Marshal A m t) c G T us z i e h =
          seq_ok z.environment (Is c TStr) (Is c T) (eval mode m apps c us z) (λ v. follow (eval mode t apps c us) (λ w. marshals c A v w)) (sound m c G TStr us z i e h.1)
          (λ v y g p.
          let l = later z y g c i in
          seq_ok y.environment (Is c (sees z c A)) (Is c T) (eval mode t apps c us y) (λ w. marshals c A v w) (sound t c G (sees z c A) us y l (written_later z y g c i us G e) (term_later z y g c i t G (sees z c A) h.2))
          (λ w x k q. marshal_ok v w c A T x k.after (value_later y x k c l v TStr p) h.0))
      sound (Unmarshal A t) c G T us z i e h =
          seq_ok z.environment (Is c TStr) (Is c T) (eval mode t apps c us z) (λ v. unmarshals mode c A v) (sound t c G TStr us z i e h.1)
          (λ v y g p. unmarshal_ok v c A T y (later z y g c i) p (known_later z y g c i A h.2) (h.0 ∙ seen_later z y g c i A h.2))
      sound (Val A v) c G T us z i e h = absurd h
      sound (Evaluated A v) c G T us z i e h = (grows_not z.environment i.0, h.1)
      sound (Bracket b A t) c G T us z i e h =
          let j : At z b = (i.0, h.3) in
          seq_ok z.environment (Is b (sees z b A)) (Is c T) (eval mode t apps b [] z) (λ v. across mode A b c v) (sound t b [] (sees z b A) [] z j refl h.2) (λ v y g p. across_later z y g A T b c v h.1 j i h.0 p)

      pub all_sound : (ts : Exprs) (c : Home) (G : List Typ) (Ts : Typs) (us : Written) (z : World) → At z c → WrittenTyped mode z.environment us c G → AllTyped mode z.environment ts c G Ts → Ok z.environment (Are c Ts) (eval_all mode ts apps c us z)
      all_sound no_exprs c G Ts us z i e h = (grows_not z.environment i.0, h)
      all_sound (expr t ts) c G Ts us z i e h =
          seq_ok z.environment (Is c h.0) (Are c Ts) (eval mode t apps c us z) (λ v. follow (eval_all mode ts apps c us) (λ ws. give (value v ws))) (sound t c G h.0 us z i e h.3)
          (λ v y g p.
          let l = later z y g c i in
          seq_ok y.environment (Are c h.1) (Are c Ts) (eval_all mode ts apps c us y) (λ ws. give (value v ws)) (all_sound ts c G h.1 us y l (written_later z y g c i us G e) (terms_later z y g c i ts G h.1 h.4))
          (λ ws x f q. (grows_not x.environment f.after, (h.0, h.1, h.2, value_later y x f c l v h.0 p, q))))

      -- the rest of a sequence, after a part of type U
      rest_sound : (ts : Exprs) (c : Home) (G : List Typ) (U : Typ) (Us : Typs) (T : Typ) (us : Written) (v : Value) (z : World) → At z c → WrittenTyped mode z.environment us c G → AllTyped mode z.environment ts c G Us → IsLast (typ U Us) T → Is c U z.environment v → Good z c T (eval_rest mode ts apps c us v z)
      rest_sound no_exprs c G U Us T us v z i e h l p = let q : U ≡ T = subst (λ X. IsLast (typ U X) T) h l in (grows_not z.environment i.0, subst (λ X. Is c X z.environment v) q p)
      rest_sound (expr t ts) c G U Us T us v z i e h l p =
          seq_ok z.environment (Is c h.0) (Is c T) (eval mode t apps c us z) (λ w. eval_rest mode ts apps c us w) (sound t c G h.0 us z i e h.3)
          (λ w y g q. rest_sound ts c G h.0 h.1 T us w y (later z y g c i) (written_later z y g c i us G e) (terms_later z y g c i ts G h.1 h.4) (subst (λ X. IsLast (typ U X) T) h.2 l).1 q)

      arms_sound : (arms : Arms) (c : Home) (G : List Typ) (A T : Typ) (us : Written) (v : Value) (x : Exception) (z : World) → At z c → WrittenTyped mode z.environment us c G → ArmsTyped mode z.environment arms c G A T → Is c A z.environment v → Good z c T (eval_arms mode arms apps c us v (raise x) z)
      arms_sound no_arms c G A T us v x z i e h p = grows_not z.environment i.0
      arms_sound (arm q t rest) c G A T us v x z i e h p =
          fitted_ok (fit q v us) c T (eval mode t apps c) (eval_arms mode rest apps c us v (raise x)) z
          (λ ws o. sound t c (h.0 ++ G) T ws z i (fit_typed mode z.environment q v us ws c A G h.0 o p h.1 e) h.2) (arms_sound rest c G A T us v x z i e h.3 p)

  pub depth_sound : (N k : ℕ) (t : Expr) (c : Home) (G : List Typ) (T : Typ) (us : Written) (z : World) → At z c → WrittenTyped mode z.environment us c G → Typed mode z.environment t c G T → Good z c T (depth mode N k t c us z)
  depth_sound N zero = sound N no_more (λ t c G T us z i e h. tt)
  depth_sound N (suc k) = sound N (depth mode N k) (depth_sound N k)
