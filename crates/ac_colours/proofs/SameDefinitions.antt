-- A step changes the definitions only where unmarshal is next, and what has crossed only where marshal or unmarshal is.
use Rattle.std.proofs.Common.{◌≡◌, ◌⊎◌, inl, inr, refl, sym, subst, ℕ, Bool, true, false, cond, [], ◌∷◌, Option, Some, None}
use Rattle.std.specs.Prelude.{option_map, is_some}
use Rattle.std.specs.Option.{option_or}
use Rattle.ac_types.specs.Types.{Bytes, Typ, TInt, TBool, TStr, TUnit, TExn, TTuple, TList, TOpt, TFun, TAbs}
use Rattle.ac_terms.specs.Terms.{Home, Expr, Int, Boolean, Str, Unit', Exn, ExnOf, Tuple, Nil, Empty, Present, Cons, Var, Own, Ref, Lam, Rec, App, Let, If, Seq, Match, Try, Raise, Prim, Marshal, Unmarshal, Val, Evaluated, Bracket, Exprs, no_exprs, expr, Value, VInt, VBool, VStr, VUnit, VExn, VTuple, VNil, VCons, VAbsent, VPresent, VLam, VRec, VProxy, value}
use Rattle.ac_code.specs.Constants.{PrimitiveAnswer, Yields, Prints, Sends, Receives, Fails, NoSense}
use Rattle.ac_rules.specs.Plain.{packed}
use Rattle.ac_rules.specs.Views.{Mode, opens, representation}
use Rattle.ac_rules.specs.Typing.{is_function}
use Rattle.ac_outside.specs.Frames.{Frame, Whole, Bad, AtEnd, next_frame}
use Rattle.ac_meaning.specs.Worlds.{Exception, World, match_failure_exn, Read, with_crossing}
use Rattle.ac_meaning.specs.Acts.{Act, Is, Goes, Turns, Applies, Raises, Wrong, becomes, or_raises, within, part}
use Rattle.ac_meaning.specs.Substitution.{inst}
use Rattle.ac_meaning.specs.Matching.{chosen}
use Rattle.ac_meaning.specs.PrimitiveSteps.{spelled, primitive, answered, sending, receiving, exception_of, exception_value, thrown}
use Rattle.ac_meaning.specs.Brackets.{enclosed, all_enclosed, is_function_value, inside_seal, unsealed_term, at_name, bracket_step}
use Rattle.ac_meaning.specs.References.{own_field, referred}
use Rattle.ac_meaning.specs.Packing.{Packing, CannotPack, Packs, packs, packing, Arrival, Unfit, Brings, arrival, brings, raising, marshal_step, unmarshal_step}
use Rattle.ac_meaning.specs.Reduction.{apply, branch, look, look_all}
use Rattle.ac_meaning.specs.Redexes.{Redex, redex, redex_all, stands_next, crosses}
use Rattle.ac_colours.proofs.SealsLaw.{AtRest, none_else, rest, rest_all}

-- the next redex is an unmarshal
abbrev IsUnmarshalTerm : Expr → Type 0
IsUnmarshalTerm (Unmarshal T e) = Unit {0}
IsUnmarshalTerm e = ⊥

abbrev pub UnmarshalsNext : Option Redex → Type 0
UnmarshalsNext None = ⊥
UnmarshalsNext (Some r) = IsUnmarshalTerm r.term

module _ (mode : Mode) (z : World) where
  -- an unmarshal; or a marshal, in whose step the definitions stay as they are
  abbrev CrossesAt : World → Expr → Type 0
  CrossesAt y (Marshal T m e) = y.environment ≡ z.environment
  CrossesAt y (Unmarshal T e) = Unit {0}
  CrossesAt y e = ⊥

  abbrev pub CrossesNext : World → Option Redex → Type 0
  CrossesNext y None = ⊥
  CrossesNext y (Some r) = CrossesAt y r.term

  -- the definitions and what has crossed stay as they are, or a marshal or an unmarshal is next
  abbrev pub Stays : {S A : Type 0} → Act S A → Option Redex → Type 0
  Stays (Turns y s) o = ((y.environment ≡ z.environment) × (y.crossings ≡ z.crossings)) ⊎ CrossesNext y o
  Stays (Is v) o = Unit {0}
  Stays (Goes s) o = Unit {0}
  Stays (Applies s) o = Unit {0}
  Stays (Raises x) o = Unit {0}
  Stays Wrong o = Unit {0}

  pub definitions_stay : (y : World) (o : Option Redex) → ((y.environment ≡ z.environment) × (y.crossings ≡ z.crossings)) ⊎ CrossesNext y o → (y.environment ≡ z.environment) ⊎ UnmarshalsNext o
  definitions_stay y o (inl e) = inl e.0
  definitions_stay y None (inr u) = absurd u
  definitions_stay y (Some r) (inr u) = by r.term u
    where
      by : (e : Expr) → CrossesAt y e → (y.environment ≡ z.environment) ⊎ IsUnmarshalTerm e
      by (Marshal T m e) u = inl u
      by (Unmarshal T e) u = inr tt
      by _ u = absurd u

  before_it : (y : World) (o p : Option Redex) → ((y.environment ≡ z.environment) × (y.crossings ≡ z.crossings)) ⊎ CrossesNext y o → ((y.environment ≡ z.environment) × (y.crossings ≡ z.crossings)) ⊎ CrossesNext y (option_or o p)
  before_it y o p (inl e) = inl e
  before_it y None p (inr u) = absurd u
  before_it y (Some r) p (inr u) = inr u

  then_stays : {S T A B : Type 0} (wrap : S → T) (done : A → Act T B) (catch : Exception → Act T B) (o p : Option Redex) (a : Act S A) → AtRest a o → Stays a o → ((v : A) → Stays (done v) p) → ((x : Exception) (q : Option Redex) → Stays (catch x) q) → Stays (within wrap done catch a) (option_or o p)
  then_stays wrap done catch o p (Is v) r h k x = subst (λ o. Stays (done v) (option_or o p)) (sym r) (k v)
  then_stays wrap done catch o p (Goes s) r h k x = tt
  then_stays wrap done catch o p (Turns y s) r h k x = before_it y o p h
  then_stays wrap done catch o p (Applies s) r h k x = tt
  then_stays wrap done catch o p (Raises y) r h k x = x y (option_or o p)
  then_stays wrap done catch o p Wrong r h k x = tt

  part_stays : {S T A B : Type 0} (wrap : S → T) (done : A → Act T B) (o p : Option Redex) (a : Act S A) → AtRest a o → Stays a o → ((v : A) → Stays (done v) p) → Stays (part wrap done a) (option_or o p)
  part_stays wrap done o p a r h k = then_stays wrap done Raises o p a r h k (λ x q. tt)

  last_stays : {S T A B : Type 0} (wrap : S → T) (done : A → Act T B) (o : Option Redex) (a : Act S A) → AtRest a o → Stays a o → ((v : A) → Stays (done v) None) → Stays (part wrap done a) o
  last_stays wrap done o a r h k = subst (Stays (part wrap done a)) (none_else o) (part_stays wrap done o None a r h k)

  becomes_stays : (o : Option Expr) (q : Option Redex) → Stays {S = Expr} {A = Value} (becomes o) q
  becomes_stays None q = tt
  becomes_stays (Some s) q = tt

  raises_stays : (x : Exception) (o : Option Expr) (q : Option Redex) → Stays {S = Expr} {A = Value} (or_raises x o) q
  raises_stays x None q = tt
  raises_stays x (Some s) q = tt

  cond_stays : (b : Bool) (e : Expr) (q : Option Redex) → Stays {S = Expr} {A = Value} (cond b (Goes e) Wrong) q
  cond_stays true e q = tt
  cond_stays false e q = tt

  name_stays : (b : Home) (m u : Bytes) (R : Option Typ) (v : Value) (x y : Bool) (q : Option Redex) → Stays (at_name b m u R v x y) q
  name_stays b m u R v true true q = becomes_stays (option_map (λ T. enclosed b T v) R) q
  name_stays b m u R v true false q = tt
  name_stays b m u R v false true q = becomes_stays (unsealed_term (inside_seal m u v) R) q
  name_stays b m u R v false false q = cond_stays (is_some (inside_seal m u v)) (Evaluated (TAbs m u) v) q

  proxy_stays : (s : Bool) (v : Value) (q : Option Redex) → Stays {S = Expr} {A = Value} (cond s (Is v) Wrong) q
  proxy_stays true v q = tt
  proxy_stays false v q = tt

  bracket_stays : (b c : Home) (T : Typ) (v : Value) (q : Option Redex) → Stays (bracket_step mode z.environment b c T v) q
  bracket_stays b c TInt (VInt k) q = tt
  bracket_stays b c TBool (VBool k) q = tt
  bracket_stays b c TStr (VStr k) q = tt
  bracket_stays b c TUnit VUnit q = tt
  bracket_stays b c TExn (VExn k s) q = tt
  bracket_stays b c (TTuple Ts) (VTuple vs) q = becomes_stays (option_map Tuple (all_enclosed b Ts vs)) q
  bracket_stays b c (TList T) (VNil U) q = tt
  bracket_stays b c (TList T) (VCons v w) q = tt
  bracket_stays b c (TOpt T) (VAbsent U) q = tt
  bracket_stays b c (TOpt T) (VPresent v) q = tt
  bracket_stays b c (TFun T U) v q = proxy_stays (is_function_value v) (VProxy b T U v) q
  bracket_stays b c (TAbs m u) v q = name_stays b m u (representation z.environment m u) v (opens mode z.environment b m) (opens mode z.environment c m) q
  bracket_stays b c _ _ q = tt

  apply_stays : (c : Home) (v w : Value) (q : Option Redex) → Stays (apply c v w) q
  apply_stays c (VLam T e) w q = tt
  apply_stays c (VRec T U e) w q = tt
  apply_stays c (VProxy b T U f) w q = tt
  apply_stays c _ w q = tt

  branch_stays : (v : Value) (a b : Expr) (q : Option Redex) → Stays (branch v a b) q
  branch_stays (VBool true) a b q = tt
  branch_stays (VBool false) a b q = tt
  branch_stays _ a b q = tt

  text_stays : (k : ℕ) (v : Value) (q : Option Redex) → Stays (exception_of k v) q
  text_stays k (VStr s) q = tt
  text_stays k _ q = tt

  thrown_stays : (v : Value) (q : Option Redex) → Stays (thrown v) q
  thrown_stays (VExn k s) q = tt
  thrown_stays _ q = tt

  received_stays : (o : Frame) (q : Option Redex) → Stays {S = Expr} {A = Value} (receiving spelled (raising TStr) o z) q
  received_stays (Whole s left) q = inl (refl, refl)
  received_stays (Bad n got) q = inl (refl, refl)
  received_stays AtEnd q = inl (refl, refl)

  sent_stays : (b : Bool) (s : Bytes) (q : Option Redex) → Stays {S = Expr} {A = Value} (sending spelled b s z) q
  sent_stays true s q = inl (refl, refl)
  sent_stays false s q = tt

  answer_stays : (a : PrimitiveAnswer) (q : Option Redex) → Stays {S = Expr} {A = Value} (answered spelled (raising TStr) z a) q
  answer_stays (Yields k) q = tt
  answer_stays (Prints s) q = inl (refl, refl)
  answer_stays (Sends s) q = sent_stays z.has_channel s q
  answer_stays Receives q = received_stays (next_frame z.input) q
  answer_stays (Fails k s) q = tt
  answer_stays NoSense q = tt

  packs_stays : (c : Home) (T : Typ) (m e : Expr) (p : Packing) → Stays (packs z p) (stands_next c (Marshal T m e))
  packs_stays c T m e (CannotPack x) = tt
  packs_stays c T m e (Packs s) = inr refl

  marshal_stays : (c : Home) (T : Typ) (m e : Expr) (v w : Value) → Stays (marshal_step z c T v w) (stands_next c (Marshal T m e))
  marshal_stays c T m e (VStr mark) w = packs_stays c T m e (packing z T mark (packed z.environment c w T))
  marshal_stays c T m e _ w = tt

  brings_stays : (y : World) (c : Home) (T : Typ) (e : Expr) (a : Arrival) → Stays (brings mode y T a) (stands_next c (Unmarshal T e))
  brings_stays y c T e (Unfit x) = inr tt
  brings_stays y c T e (Brings F v w) = inr tt

  unmarshal_stays : (c : Home) (T : Typ) (e : Expr) (v : Value) → Stays (unmarshal_step mode z c T v) (stands_next c (Unmarshal T e))
  unmarshal_stays c T e (VStr s) = brings_stays (with_crossing (Read s) z) c T e (arrival z c T s)
  unmarshal_stays c T e _ = tt

  mutual
    pub stays : (e : Expr) (c : Home) → Stays (look mode z c e) (redex c e)
    stays (Int k) c = tt
    stays (Boolean b) c = tt
    stays (Str s) c = tt
    stays Unit' c = tt
    stays (Exn k) c = tt
    stays (Nil T) c = tt
    stays (Empty T) c = tt
    stays (Lam T e) c = tt
    stays (Rec T U e) c = tt
    stays (Evaluated T v) c = tt
    stays (ExnOf k e) c = last_stays (ExnOf k) (exception_of k) (redex c e) (look mode z c e) (rest mode z e c) (stays e c) (λ v. text_stays k v None)
    stays (Tuple es) c = last_stays Tuple (λ vs. Is (VTuple vs)) (redex_all c es) (look_all mode z c es) (rest_all mode z es c) (stays_all es c) (λ vs. tt)
    stays (Present e) c = last_stays Present (λ v. Is (VPresent v)) (redex c e) (look mode z c e) (rest mode z e c) (stays e c) (λ v. tt)
    stays (Cons a b) c =
        part_stays (λ x. Cons x b) (λ v. part (λ y. Cons a y) (λ w. Is (VCons v w)) (look mode z c b)) (redex c a) (redex c b) (look mode z c a) (rest mode z a c) (stays a c)
        (λ v. last_stays (λ y. Cons a y) (λ w. Is (VCons v w)) (redex c b) (look mode z c b) (rest mode z b c) (stays b c) (λ w. tt))
    stays (App f a) c =
        part_stays (λ x. App x a) (λ v. part (λ y. App f y) (λ w. apply c v w) (look mode z c a)) (redex c f) (option_or (redex c a) (stands_next c (App f a))) (look mode z c f) (rest mode z f c) (stays f c)
        (λ v. part_stays (λ y. App f y) (λ w. apply c v w) (redex c a) (stands_next c (App f a)) (look mode z c a) (rest mode z a c) (stays a c) (λ w. apply_stays c v w (stands_next c (App f a))))
    stays (Let T e b) c = part_stays (λ x. Let T x b) (λ v. Goes (inst 0 ((T, v) ∷ []) b)) (redex c e) (stands_next c (Let T e b)) (look mode z c e) (rest mode z e c) (stays e c) (λ v. tt)
    stays (If e a b) c = part_stays (λ x. If x a b) (λ v. branch v a b) (redex c e) (stands_next c (If e a b)) (look mode z c e) (rest mode z e c) (stays e c) (λ v. branch_stays v a b (stands_next c (If e a b)))
    stays (Match e arms) c = part_stays (λ x. Match x arms) (λ v. or_raises match_failure_exn (chosen arms v)) (redex c e) (stands_next c (Match e arms)) (look mode z c e) (rest mode z e c) (stays e c) (λ v. raises_stays match_failure_exn (chosen arms v) (stands_next c (Match e arms)))
    stays (Seq no_exprs) c = tt
    stays (Seq (expr e no_exprs)) c = tt
    stays (Seq (expr e (expr d es))) c = part_stays (λ x. Seq (expr x (expr d es))) (λ v. Goes (Seq (expr d es))) (redex c e) (stands_next c (Seq (expr e (expr d es)))) (look mode z c e) (rest mode z e c) (stays e c) (λ v. tt)
    stays (Raise T e) c = part_stays (Raise T) thrown (redex c e) (stands_next c (Raise T e)) (look mode z c e) (rest mode z e c) (stays e c) (λ v. thrown_stays v (stands_next c (Raise T e)))
    stays (Try e arms) c =
        then_stays (λ x. Try x arms) (λ v. Goes e) (λ x. or_raises x (chosen arms (exception_value x))) (redex c e) (stands_next c (Try e arms)) (look mode z c e) (rest mode z e c) (stays e c) (λ v. tt) (λ x q. raises_stays x (chosen arms (exception_value x)) q)
    stays (Prim k es) c =
        part_stays (Prim k) (λ vs. answered spelled (raising TStr) z (primitive k vs)) (redex_all c es) (stands_next c (Prim k es)) (look_all mode z c es) (rest_all mode z es c) (stays_all es c) (λ vs. answer_stays (primitive k vs) (stands_next c (Prim k es)))
    stays (Marshal T m e) c =
        part_stays (λ x. Marshal T x e) (λ v. part (λ y. Marshal T m y) (λ w. marshal_step z c T v w) (look mode z c e)) (redex c m) (option_or (redex c e) (stands_next c (Marshal T m e))) (look mode z c m) (rest mode z m c) (stays m c)
        (λ v. part_stays (λ y. Marshal T m y) (λ w. marshal_step z c T v w) (redex c e) (stands_next c (Marshal T m e)) (look mode z c e) (rest mode z e c) (stays e c) (λ w. marshal_stays c T m e v w))
    stays (Unmarshal T e) c = part_stays (Unmarshal T) (unmarshal_step mode z c T) (redex c e) (stands_next c (Unmarshal T e)) (look mode z c e) (rest mode z e c) (stays e c) (λ v. unmarshal_stays c T e v)
    stays (Own f) c = becomes_stays (own_field z.environment c f) (stands_next c (Own f))
    stays (Ref j x) c = becomes_stays (referred z.environment j x) (stands_next c (Ref j x))
    stays (Bracket b T e) c = part_stays (Bracket b T) (bracket_step mode z.environment b c T) (redex b e) (crosses c (Bracket b T e) (is_function T)) (look mode z b e) (rest mode z e b) (stays e b) (λ v. bracket_stays b c T v (crosses c (Bracket b T e) (is_function T)))
    stays (Var i) c = tt
    stays (Val T v) c = tt

    stays_all : (es : Exprs) (c : Home) → Stays (look_all mode z c es) (redex_all c es)
    stays_all no_exprs c = tt
    stays_all (expr e es) c =
        part_stays (λ x. expr x es) (λ v. part (λ y. expr e y) (λ vs. Is (value v vs)) (look_all mode z c es)) (redex c e) (redex_all c es) (look mode z c e) (rest mode z e c) (stays e c)
        (λ v. last_stays (λ y. expr e y) (λ vs. Is (value v vs)) (redex_all c es) (look_all mode z c es) (rest_all mode z es c) (stays_all es c) (λ vs. tt))
