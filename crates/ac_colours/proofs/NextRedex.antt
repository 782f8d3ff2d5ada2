-- What is next in a term is what is next in its redex; where it has none, it is a value, or no rule is for it.
use Rattle.std.proofs.Common.{◌≡◌, ◌⊎◌, inl, inr, ℕ, refl, sym, ap, ◌∙◌, subst, Bool, true, false, cond, [], ◌∷◌, Option, Some, None}
use Rattle.std.specs.Option.{option_or}
use Rattle.ac_types.specs.Types.{Typ, TInt, TBool, TStr, TUnit, TExn, TTuple, TList, TOpt, TFun, TAbs, TMine}
use Rattle.ac_terms.specs.Terms.{Home, Main, Expr, Int, Boolean, Str, Unit', Exn, ExnOf, Tuple, Nil, Empty, Present, Cons, Var, Own, Ref, Lam, Rec, App, Let, If, Seq, Match, Try, Raise, Prim, Marshal, Unmarshal, Val, Evaluated, Bracket, Exprs, no_exprs, expr, Value, VStr, VTuple, VCons, VPresent, VProxy, value}
use Rattle.ac_terms.specs.Defs.{Environment}
use Rattle.ac_rules.specs.Views.{Mode}
use Rattle.ac_rules.specs.Typing.{is_function}
use Rattle.ac_meaning.specs.Worlds.{Exception, World, match_failure_exn}
use Rattle.ac_meaning.specs.Acts.{Act, Is, Goes, Turns, Applies, Raises, Wrong, or_raises, within, part, parts, At}
use Rattle.ac_meaning.specs.Substitution.{inst}
use Rattle.ac_meaning.specs.Matching.{chosen}
use Rattle.ac_meaning.specs.PrimitiveSteps.{spelled, primitive, answered, exception_of, exception_value, thrown}
use Rattle.ac_meaning.specs.Brackets.{is_function_value, bracket_step}
use Rattle.ac_meaning.specs.References.{own_field, referred}
use Rattle.ac_meaning.specs.Packing.{raising, marshal_step, unmarshal_step}
use Rattle.ac_meaning.specs.Reduction.{apply, branch, look, look_all, look_main}
use Rattle.ac_meaning.specs.Redexes.{Redex, redex, redex_all, stands_next, crosses}
use Rattle.ac_meaning.specs.Typed.{Typed, ValueTyped}
use Rattle.ac_meaning.specs.TypedStates.{IsTyped}
use Rattle.ac_meaning.proofs.Admitted.{arrives}
use Rattle.ac_meaning.proofs.Kept.{ActOk, kept}
use Rattle.ac_colours.proofs.SealsLaw.{AtRest, none_else, rest, rest_becomes, rest_or_raises, rest_bracket, rest_apply, rest_branch, rest_thrown, rest_answer, rest_marshal, rest_unmarshal}

-- a value, or a term for which no rule is
abbrev pub Ended : {S A : Type 0} → Act S A → Type 0
Ended (Is v) = Unit {0}
Ended (Goes s) = ⊥
Ended (Turns z s) = ⊥
Ended (Applies s) = ⊥
Ended (Raises x) = ⊥
Ended Wrong = Unit {0}

-- a is next in a term, and r in its redex: a handler may go on where the redex raises
abbrev pub Comes : {S A : Type 0} → Act S A → Act Expr Value → Type 0
Comes (Is v) r = ⊥
Comes (Goes s) r = ((g : Expr) × (r ≡ Goes g)) ⊎ ((x : Exception) × (r ≡ Raises x))
Comes (Turns y s) r = (g : Expr) × (r ≡ Turns y g)
Comes (Applies s) r = (g : Expr) × (r ≡ Applies g)
Comes (Raises x) r = r ≡ Raises x
Comes Wrong r = Unit {0}

-- a step of a redex is its own
own : (a : Act Expr Value) (r : Redex) → AtRest a (Some r) → Comes a a
own (Is v) r h = absurd cc
own (Goes s) r h = inl (s, refl)
own (Turns y s) r h = (s, refl)
own (Applies s) r h = (s, refl)
own (Raises x) r h = refl
own Wrong r h = tt

module _ (mode : Mode) (z : World) where
  abbrev pub NextIn : {S A : Type 0} → Act S A → Option Redex → Type 0
  NextIn a None = Ended a
  NextIn a (Some r) = Comes a (look mode z r.home r.term)

  -- the part's step and then the whole's
  then_next : {S T A B : Type 0} (wrap : S → T) (done : A → Act T B) (catch : Exception → Act T B) (o p : Option Redex) (a : Act S A) → NextIn a o → ((v : A) → a ≡ Is v → NextIn (done v) p) → ((x : Exception) (r : Act Expr Value) → r ≡ Raises x → Comes (catch x) r) → NextIn (within wrap done catch a) (option_or o p)
  then_next wrap done catch (Some r) p (Is v) h k c = absurd h
  then_next wrap done catch (Some r) p (Goes s) h k c = h
  then_next wrap done catch (Some r) p (Turns y s) h k c = h
  then_next wrap done catch (Some r) p (Applies s) h k c = h
  then_next wrap done catch (Some r) p (Raises x) h k c = c x (look mode z r.home r.term) h
  then_next wrap done catch (Some r) p Wrong h k c = tt
  then_next wrap done catch None p (Is v) h k c = k v refl
  then_next wrap done catch None p (Goes s) h k c = absurd h
  then_next wrap done catch None p (Turns y s) h k c = absurd h
  then_next wrap done catch None p (Applies s) h k c = absurd h
  then_next wrap done catch None p (Raises x) h k c = absurd h
  then_next wrap done catch None None Wrong h k c = tt
  then_next wrap done catch None (Some r) Wrong h k c = tt

  -- where the whole raises what its part raises
  part_next : {S T A B : Type 0} (wrap : S → T) (done : A → Act T B) (o p : Option Redex) (a : Act S A) → NextIn a o → ((v : A) → a ≡ Is v → NextIn (done v) p) → NextIn (part wrap done a) (option_or o p)
  part_next wrap done o p a h k = then_next wrap done Raises o p a h k (λ x r e. e)

  -- and its value is what comes of the part's value
  last_next : {S T A B : Type 0} (wrap : S → T) (done : A → Act T B) (o : Option Redex) (a : Act S A) → NextIn a o → ((v : A) → Ended (done v)) → NextIn (part wrap done a) o
  last_next wrap done o a h k = subst (NextIn (part wrap done a)) (none_else o) (part_next wrap done o None a h (λ v e. k v))

  -- a term whose parts are values
  stand_next : (c : Home) (e : Expr) (a : Act Expr Value) → look mode z c e ≡ a → AtRest a (stands_next c e) → NextIn a (stands_next c e)
  stand_next c e a q h = subst (Comes a) (sym q) (own a (record { home = c; term = e }) h)

  raised_next : (x : Exception) (o : Option Expr) (r : Act Expr Value) → r ≡ Raises x → Comes {S = Expr} {A = Value} (or_raises x o) r
  raised_next x None r e = e
  raised_next x (Some t) r e = inr (x, e)

  ended_text : (k : ℕ) (v : Value) → Ended (exception_of k v)
  ended_text k (VStr s) = tt
  ended_text k _ = tt

  ended_proxy : (s : Bool) (v : Value) → Ended {S = Expr} {A = Value} (cond s (Is v) Wrong)
  ended_proxy true v = tt
  ended_proxy false v = tt

  bracket_next : (b c : Home) (T : Typ) (e : Expr) (v : Value) → look mode z c (Bracket b T e) ≡ bracket_step mode z.environment b c T v → NextIn (bracket_step mode z.environment b c T v) (crosses c (Bracket b T e) (is_function T))
  bracket_next b c (TFun T U) e v q = ended_proxy (is_function_value v) (VProxy b T U v)
  bracket_next b c TInt e v q = stand_next c (Bracket b TInt e) _ q (rest_bracket mode z b c TInt (Bracket b TInt e) v)
  bracket_next b c TBool e v q = stand_next c (Bracket b TBool e) _ q (rest_bracket mode z b c TBool (Bracket b TBool e) v)
  bracket_next b c TStr e v q = stand_next c (Bracket b TStr e) _ q (rest_bracket mode z b c TStr (Bracket b TStr e) v)
  bracket_next b c TUnit e v q = stand_next c (Bracket b TUnit e) _ q (rest_bracket mode z b c TUnit (Bracket b TUnit e) v)
  bracket_next b c TExn e v q = stand_next c (Bracket b TExn e) _ q (rest_bracket mode z b c TExn (Bracket b TExn e) v)
  bracket_next b c (TTuple Ts) e v q = stand_next c (Bracket b (TTuple Ts) e) _ q (rest_bracket mode z b c (TTuple Ts) (Bracket b (TTuple Ts) e) v)
  bracket_next b c (TList T) e v q = stand_next c (Bracket b (TList T) e) _ q (rest_bracket mode z b c (TList T) (Bracket b (TList T) e) v)
  bracket_next b c (TOpt T) e v q = stand_next c (Bracket b (TOpt T) e) _ q (rest_bracket mode z b c (TOpt T) (Bracket b (TOpt T) e) v)
  bracket_next b c (TAbs n t) e v q = stand_next c (Bracket b (TAbs n t) e) _ q (rest_bracket mode z b c (TAbs n t) (Bracket b (TAbs n t) e) v)
  bracket_next b c (TMine t) e v q = stand_next c (Bracket b (TMine t) e) _ q (rest_bracket mode z b c (TMine t) (Bracket b (TMine t) e) v)

  mutual
    pub next : (e : Expr) (c : Home) → NextIn (look mode z c e) (redex c e)
    next (Int k) c = tt
    next (Boolean b) c = tt
    next (Str s) c = tt
    next Unit' c = tt
    next (Exn k) c = tt
    next (Nil T) c = tt
    next (Empty T) c = tt
    next (Lam T e) c = tt
    next (Rec T U e) c = tt
    next (Evaluated T v) c = tt
    next (ExnOf k e) c = last_next (ExnOf k) (exception_of k) (redex c e) (look mode z c e) (next e c) (ended_text k)
    next (Tuple es) c = last_next Tuple (λ vs. Is (VTuple vs)) (redex_all c es) (look_all mode z c es) (next_all es c) (λ vs. tt)
    next (Present e) c = last_next Present (λ v. Is (VPresent v)) (redex c e) (look mode z c e) (next e c) (λ v. tt)
    next (Cons a b) c =
        part_next (λ x. Cons x b) (λ v. part (λ y. Cons a y) (λ w. Is (VCons v w)) (look mode z c b)) (redex c a) (redex c b) (look mode z c a) (next a c)
        (λ v q. last_next (λ y. Cons a y) (λ w. Is (VCons v w)) (redex c b) (look mode z c b) (next b c) (λ w. tt))
    next (App f a) c =
        part_next (λ x. App x a) (λ v. part (λ y. App f y) (λ w. apply c v w) (look mode z c a)) (redex c f) (option_or (redex c a) (stands_next c (App f a))) (look mode z c f) (next f c)
        (λ v q. part_next (λ y. App f y) (λ w. apply c v w) (redex c a) (stands_next c (App f a)) (look mode z c a) (next a c)
        (λ w r. stand_next c (App f a) (apply c v w) (ap (λ x. parts App f a (apply c) x (look mode z c a)) q ∙ ap (part (λ y. App f y) (λ w. apply c v w)) r) (rest_apply mode z c v w (stands_next c (App f a)))))
    next (Let T e b) c = part_next (λ x. Let T x b) (λ v. Goes (inst 0 ((T, v) ∷ []) b)) (redex c e) (stands_next c (Let T e b)) (look mode z c e) (next e c) (λ v q. stand_next c (Let T e b) (Goes (inst 0 ((T, v) ∷ []) b)) (ap (part (λ x. Let T x b) (λ v. Goes (inst 0 ((T, v) ∷ []) b))) q) tt)
    next (If e a b) c = part_next (λ x. If x a b) (λ v. branch v a b) (redex c e) (stands_next c (If e a b)) (look mode z c e) (next e c) (λ v q. stand_next c (If e a b) (branch v a b) (ap (part (λ x. If x a b) (λ v. branch v a b)) q) (rest_branch mode z v a b (stands_next c (If e a b))))
    next (Match e arms) c =
        part_next (λ x. Match x arms) (λ v. or_raises match_failure_exn (chosen arms v)) (redex c e) (stands_next c (Match e arms)) (look mode z c e) (next e c)
        (λ v q. stand_next c (Match e arms) (or_raises match_failure_exn (chosen arms v)) (ap (part (λ x. Match x arms) (λ v. or_raises match_failure_exn (chosen arms v))) q) (rest_or_raises match_failure_exn (chosen arms v) (stands_next c (Match e arms))))
    next (Seq no_exprs) c = tt
    next (Seq (expr e no_exprs)) c = stand_next c (Seq (expr e no_exprs)) (Goes e) refl tt
    next (Seq (expr e (expr d es))) c =
        part_next (λ x. Seq (expr x (expr d es))) (λ v. Goes (Seq (expr d es))) (redex c e) (stands_next c (Seq (expr e (expr d es)))) (look mode z c e) (next e c)
        (λ v q. stand_next c (Seq (expr e (expr d es))) (Goes (Seq (expr d es))) (ap (part (λ x. Seq (expr x (expr d es))) (λ v. Goes (Seq (expr d es)))) q) tt)
    next (Raise T e) c = part_next (Raise T) thrown (redex c e) (stands_next c (Raise T e)) (look mode z c e) (next e c) (λ v q. stand_next c (Raise T e) (thrown v) (ap (part (Raise T) thrown) q) (rest_thrown mode z v (stands_next c (Raise T e))))
    next (Try e arms) c =
        then_next (λ x. Try x arms) (λ v. Goes e) (λ x. or_raises x (chosen arms (exception_value x))) (redex c e) (stands_next c (Try e arms)) (look mode z c e) (next e c)
        (λ v q. stand_next c (Try e arms) (Goes e) (ap (within (λ x. Try x arms) (λ v. Goes e) (λ x. or_raises x (chosen arms (exception_value x)))) q) tt) (λ x r h. raised_next x (chosen arms (exception_value x)) r h)
    next (Prim k es) c =
        part_next (Prim k) (λ vs. answered spelled (raising TStr) z (primitive k vs)) (redex_all c es) (stands_next c (Prim k es)) (look_all mode z c es) (next_all es c)
        (λ vs q. stand_next c (Prim k es) (answered spelled (raising TStr) z (primitive k vs)) (ap (part (Prim k) (λ vs. answered spelled (raising TStr) z (primitive k vs))) q) (rest_answer mode z (primitive k vs) (stands_next c (Prim k es))))
    next (Marshal T m e) c =
        part_next (λ x. Marshal T x e) (λ v. part (λ y. Marshal T m y) (λ w. marshal_step z c T v w) (look mode z c e)) (redex c m) (option_or (redex c e) (stands_next c (Marshal T m e))) (look mode z c m) (next m c)
        (λ v q. part_next (λ y. Marshal T m y) (λ w. marshal_step z c T v w) (redex c e) (stands_next c (Marshal T m e)) (look mode z c e) (next e c)
        (λ w r. stand_next c (Marshal T m e) (marshal_step z c T v w) (ap (λ x. parts (Marshal T) m e (marshal_step z c T) x (look mode z c e)) q ∙ ap (part (λ y. Marshal T m y) (λ w. marshal_step z c T v w)) r) (rest_marshal mode z c T v w (stands_next c (Marshal T m e)))))
    next (Unmarshal T e) c =
        part_next (Unmarshal T) (unmarshal_step mode z c T) (redex c e) (stands_next c (Unmarshal T e)) (look mode z c e) (next e c)
        (λ v q. stand_next c (Unmarshal T e) (unmarshal_step mode z c T v) (ap (part (Unmarshal T) (unmarshal_step mode z c T)) q) (rest_unmarshal mode z c T v (stands_next c (Unmarshal T e))))
    next (Own f) c = stand_next c (Own f) _ refl (rest_becomes (own_field z.environment c f) (stands_next c (Own f)))
    next (Ref j x) c = stand_next c (Ref j x) _ refl (rest_becomes (referred z.environment j x) (stands_next c (Ref j x)))
    next (Bracket b T e) c = part_next (Bracket b T) (bracket_step mode z.environment b c T) (redex b e) (crosses c (Bracket b T e) (is_function T)) (look mode z b e) (next e b) (λ v q. bracket_next b c T e v (ap (part (Bracket b T) (bracket_step mode z.environment b c T)) q))
    next (Var i) c = tt
    next (Val T v) c = tt

    next_all : (es : Exprs) (c : Home) → NextIn (look_all mode z c es) (redex_all c es)
    next_all no_exprs c = tt
    next_all (expr e es) c =
        part_next (λ x. expr x es) (λ v. part (λ y. expr e y) (λ vs. Is (value v vs)) (look_all mode z c es)) (redex c e) (redex_all c es) (look mode z c e) (next e c)
        (λ v q. last_next (λ y. expr e y) (λ vs. Is (value v vs)) (redex_all c es) (look_all mode z c es) (next_all es c) (λ vs. tt))

-- a typed term without a redex is a value
pub value_is : (E : Environment) (P : Environment → Expr → Type 0) (Q : Environment → Value → Type 0) (a : Act Expr Value) → Ended a → ActOk E P Q a → (v : Value) × (a ≡ Is v)
value_is E P Q (Is v) h k = (v, refl)
value_is E P Q (Goes s) h k = absurd h
value_is E P Q (Turns y s) h k = absurd h
value_is E P Q (Applies s) h k = absurd h
value_is E P Q (Raises x) h k = absurd h
value_is E P Q Wrong h k = absurd k

pub no_redex : (mode : Mode) (T : Typ) (e : Expr) (z : World) → IsTyped mode T (At e z) → redex Main e ≡ None → (v : Value) × (look_main mode z e ≡ Is v)
no_redex mode T e z h q = value_is z.environment (λ G d. Typed mode G d Main [] T) (λ G d. ValueTyped mode G d Main T) (look mode z Main e) (subst (NextIn mode z (look mode z Main e)) q (next mode z e Main)) (kept arrives mode z h.0 e Main T refl h.1)

pub of_value : (mode : Mode) (z : World) (e : Expr) (v : Value) → look_main mode z e ≡ Is v → redex Main e ≡ None
of_value mode z e v q = subst (λ a. AtRest a (redex Main e)) q (rest mode z e Main)

-- what is next in the redex
pub in_redex : (mode : Mode) (z : World) (e : Expr) (r : Redex) (a : Act Expr Value) → redex Main e ≡ Some r → look_main mode z e ≡ a → Comes a (look mode z r.home r.term)
in_redex mode z e r a q h = subst (λ x. Comes x (look mode z r.home r.term)) h (subst (NextIn mode z (look mode z Main e)) q (next mode z e Main))
