-- What crossed in a run by its worlds is what its events tell: the strings that marshal gave and that unmarshal took.
use Rattle.std.proofs.Common.{◌≡◌, ◌⊎◌, inl, inr, refl, sym, ap, ◌∙◌, subst, ℕ, zero, suc, Bool, true, false, ◌&&◌, not, nat_lt, cond, List, [], ◌∷◌, ◌++◌, append_assoc, append-nil, Option, Some, None}
use Rattle.std.specs.Option.{option_map_or, option_or}
use Rattle.ac_types.specs.Types.{Bytes, Typ, TAbs}
use Rattle.ac_terms.specs.Terms.{Home, Main, Expr, ExnOf, Tuple, Present, Cons, App, Let, If, Seq, Match, Try, Raise, Prim, Marshal, Unmarshal, Bracket, Exprs, no_exprs, expr, Value, VStr}
use Rattle.ac_terms.specs.Defs.{Environment}
use Rattle.ac_rules.specs.Plain.{packed}
use Rattle.ac_rules.specs.Typing.{is_function}
use Rattle.ac_rules.specs.Views.{Coloured, opens}
use Rattle.ac_meaning.specs.Worlds.{Made, Read, World, with_crossing, counted, fresh}
use Rattle.ac_meaning.specs.Acts.{Act, Is, Goes, Turns, Applies, Raises, Wrong, part, parts, Spent, State, At, Over, after, iter}
use Rattle.ac_meaning.specs.Laws.{IsTypedProgram}
use Rattle.ac_meaning.specs.Packing.{Packing, CannotPack, Packs, packs, packing, Arrival, Unfit, Brings, arrival, brings, marshal_step, unmarshal_step}
use Rattle.ac_meaning.specs.Reduction.{look, look_main, step}
use Rattle.ac_meaning.specs.Redexes.{Redex, redex, redex_all, stands_next, crosses}
use Rattle.ac_meaning.specs.Typed.{Typed, ValueTyped}
use Rattle.ac_meaning.specs.TypedStates.{IsTyped}
use Rattle.ac_meaning.proofs.Admitted.{arrives}
use Rattle.ac_meaning.proofs.Kept.{ActOk, kept, typing_kept, starts_typed}
use Rattle.ac_colours.specs.Births.{Event, Born, Gave, Took, seal, sealing, giving, taken, taking, happening, happening_in, events, crossed, crossings_in}
use Rattle.ac_colours.proofs.NextRedex.{Ended, NextIn, next}
use Rattle.ac_colours.proofs.SameDefinitions.{CrossesNext, Stays, stays}

-- of a marshal or an unmarshal that is next, the parts have no redex
abbrev HasDone : Home → Expr → Type 0
HasDone c (Marshal T m e) = (redex c m ≡ None) × (redex c e ≡ None)
HasDone c (Unmarshal T e) = redex c e ≡ None
HasDone c e = Unit {0}

abbrev AllDone : Option Redex → Type 0
AllDone None = Unit {0}
AllDone (Some r) = HasDone r.home r.term

either : (o p : Option Redex) → AllDone o → (o ≡ None → AllDone p) → AllDone (option_or o p)
either None p h k = k refl
either (Some r) p h k = h

crosses_done : (c b : Home) (T : Typ) (e : Expr) (f : Bool) → AllDone (crosses c (Bracket b T e) f)
crosses_done c b T e true = tt
crosses_done c b T e false = tt

mutual
  done : (e : Expr) (c : Home) → AllDone (redex c e)
  done (ExnOf k e) c = done e c
  done (Tuple es) c = all_done es c
  done (Present e) c = done e c
  done (Cons a b) c = either (redex c a) (redex c b) (done a c) (λ q. done b c)
  done (App f a) c = either (redex c f) (option_or (redex c a) (stands_next c (App f a))) (done f c) (λ q. either (redex c a) (stands_next c (App f a)) (done a c) (λ r. tt))
  done (Let T e b) c = either (redex c e) (stands_next c (Let T e b)) (done e c) (λ q. tt)
  done (If e a b) c = either (redex c e) (stands_next c (If e a b)) (done e c) (λ q. tt)
  done (Match e arms) c = either (redex c e) (stands_next c (Match e arms)) (done e c) (λ q. tt)
  done (Seq no_exprs) c = tt
  done (Seq (expr e no_exprs)) c = tt
  done (Seq (expr e (expr d es))) c = either (redex c e) (stands_next c (Seq (expr e (expr d es)))) (done e c) (λ q. tt)
  done (Raise T e) c = either (redex c e) (stands_next c (Raise T e)) (done e c) (λ q. tt)
  done (Try e arms) c = either (redex c e) (stands_next c (Try e arms)) (done e c) (λ q. tt)
  done (Prim k es) c = either (redex_all c es) (stands_next c (Prim k es)) (all_done es c) (λ q. tt)
  done (Marshal T m e) c = either (redex c m) (option_or (redex c e) (stands_next c (Marshal T m e))) (done m c) (λ q. either (redex c e) (stands_next c (Marshal T m e)) (done e c) (λ r. (q, r)))
  done (Unmarshal T e) c = either (redex c e) (stands_next c (Unmarshal T e)) (done e c) (λ q. q)
  done (Bracket b T e) c = either (redex b e) (crosses c (Bracket b T e) (is_function T)) (done e b) (λ q. crosses_done c b T e (is_function T))
  done _ c = tt

  all_done : (es : Exprs) (c : Home) → AllDone (redex_all c es)
  all_done no_exprs c = tt
  all_done (expr e es) c = either (redex c e) (redex_all c es) (done e c) (λ q. all_done es c)

-- a bracket gives and takes no string
sealing_quiet : (E : Environment) (b c : Home) (n t : Bytes) (a : Act Expr Value) → crossed (sealing E b c n t a) ≡ []
sealing_quiet E b c n t (Is v) = by (opens Coloured E b n && not (opens Coloured E c n))
  where
    by : (x : Bool) → crossed (cond x (Born E (seal b n t v) ∷ []) []) ≡ []
    by true = refl
    by false = refl
sealing_quiet E b c n t (Goes s) = refl
sealing_quiet E b c n t (Turns y s) = refl
sealing_quiet E b c n t (Applies s) = refl
sealing_quiet E b c n t (Raises x) = refl
sealing_quiet E b c n t Wrong = refl

bracket_quiet : (z : World) (c b : Home) (T : Typ) (e : Expr) → crossed (happening z c (Bracket b T e)) ≡ []
bracket_quiet z c b (TAbs n t) e = sealing_quiet z.environment b c n t (look Coloured z b e)
bracket_quiet z c b _ e = refl

module _ (z : World) where
  -- where the world changes, what crosses is what these events tell; else they tell of nothing
  abbrev Tells : Act Expr Value → List Event → Type 0
  Tells (Turns y s) all = y.crossings ≡ z.crossings ++ crossed all
  Tells (Is v) all = crossed all ≡ []
  Tells (Goes s) all = crossed all ≡ []
  Tells (Applies s) all = crossed all ≡ []
  Tells (Raises x) all = crossed all ≡ []
  Tells Wrong all = crossed all ≡ []

  packs_tell : (p : Packing) → Tells (packs z p) (giving (packs z p))
  packs_tell (CannotPack x) = refl
  packs_tell (Packs s) = refl

  marshal_tells : (c : Home) (T : Typ) (v w : Value) → Tells (marshal_step z c T v w) (giving (marshal_step z c T v w))
  marshal_tells c T (VStr mark) w = packs_tell (packing z T mark (packed z.environment c w T))
  marshal_tells c T _ w = refl

  marshals_tell : (c : Home) (T : Typ) (m e : Expr) (a b : Act Expr Value) → Ended a → Ended b → Tells (parts (Marshal T) m e (marshal_step z c T) a b) (giving (parts (Marshal T) m e (marshal_step z c T) a b))
  marshals_tell c T m e (Is v) (Is w) h k = marshal_tells c T v w
  marshals_tell c T m e (Is v) Wrong h k = refl
  marshals_tell c T m e (Is v) (Goes s) h k = absurd k
  marshals_tell c T m e (Is v) (Turns y s) h k = absurd k
  marshals_tell c T m e (Is v) (Applies s) h k = absurd k
  marshals_tell c T m e (Is v) (Raises x) h k = absurd k
  marshals_tell c T m e Wrong b h k = refl
  marshals_tell c T m e (Goes s) b h k = absurd h
  marshals_tell c T m e (Turns y s) b h k = absurd h
  marshals_tell c T m e (Applies s) b h k = absurd h
  marshals_tell c T m e (Raises x) b h k = absurd h

  brings_tell : (s : Bytes) (T : Typ) (a : Arrival) → Tells (brings Coloured (with_crossing (Read s) z) T a) (taken s (brings Coloured (with_crossing (Read s) z) T a))
  brings_tell s T (Unfit x) = refl
  brings_tell s T (Brings F v w) = refl

  unmarshal_tells : (c : Home) (T : Typ) (v : Value) → Tells (unmarshal_step Coloured z c T v) (taking (Is v) (unmarshal_step Coloured z c T v))
  unmarshal_tells c T (VStr s) = brings_tell s T (arrival z c T s)
  unmarshal_tells c T _ = refl

  unmarshals_tell : (c : Home) (T : Typ) (a : Act Expr Value) → Ended a → Tells (part (Unmarshal T) (unmarshal_step Coloured z c T) a) (taking a (part (Unmarshal T) (unmarshal_step Coloured z c T) a))
  unmarshals_tell c T (Is v) h = unmarshal_tells c T v
  unmarshals_tell c T Wrong h = refl
  unmarshals_tell c T (Goes s) h = absurd h
  unmarshals_tell c T (Turns y s) h = absurd h
  unmarshals_tell c T (Applies s) h = absurd h
  unmarshals_tell c T (Raises x) h = absurd h

  -- what is next in a part without a redex is a value, or no rule is for it
  has_ended : (e : Expr) (c : Home) → redex c e ≡ None → Ended (look Coloured z c e)
  has_ended e c q = subst (NextIn Coloured z (look Coloured z c e)) q (next Coloured z e c)

  -- the step of a marshal or an unmarshal tells what crosses
  marshal_next : (c : Home) (T : Typ) (m e : Expr) → HasDone c (Marshal T m e) → Tells (look Coloured z c (Marshal T m e)) (happening z c (Marshal T m e))
  marshal_next c T m e h = marshals_tell c T m e (look Coloured z c m) (look Coloured z c e) (has_ended m c h.0) (has_ended e c h.1)

  unmarshal_next : (c : Home) (T : Typ) (e : Expr) → HasDone c (Unmarshal T e) → Tells (look Coloured z c (Unmarshal T e)) (happening z c (Unmarshal T e))
  unmarshal_next c T e h = unmarshals_tell c T (look Coloured z c e) (has_ended e c h)

  -- where the world stays as it is, nothing crosses
  abbrev IsStill : Act Expr Value → Type 0
  IsStill (Turns y s) = ⊥
  IsStill a = Unit {0}

  still_tells : (a : Act Expr Value) (all : List Event) → IsStill a → Tells a all → crossed all ≡ []
  still_tells (Is v) all i h = h
  still_tells (Goes s) all i h = h
  still_tells (Turns y s) all i h = absurd i
  still_tells (Applies s) all i h = h
  still_tells (Raises x) all i h = h
  still_tells Wrong all i h = h

  quiet : (c : Home) (t : Expr) → HasDone c t → (a : Act Expr Value) → look Coloured z c t ≡ a → IsStill a → crossed (happening z c t) ≡ []
  quiet c (Marshal T m e) h a q i = still_tells a (happening z c (Marshal T m e)) i (subst (λ a. Tells a (happening z c (Marshal T m e))) q (marshal_next c T m e h))
  quiet c (Unmarshal T e) h a q i = still_tells a (happening z c (Unmarshal T e)) i (subst (λ a. Tells a (happening z c (Unmarshal T e))) q (unmarshal_next c T e h))
  quiet c (Bracket b T e) h a q i = bracket_quiet z c b T e
  quiet c _ h a q i = refl

  -- where it changes, so does what has crossed
  no_more : (y : World) (all : List Event) → y.crossings ≡ z.crossings → crossed all ≡ [] → y.crossings ≡ z.crossings ++ crossed all
  no_more y all e q = e ∙ sym (append-nil z.crossings) ∙ ap (λ l. z.crossings ++ l) (sym q)

  abbrev Changed : World → Option Redex → Type 0
  Changed y o = ((y.environment ≡ z.environment) × (y.crossings ≡ z.crossings)) ⊎ CrossesNext Coloured z y o

  turning : (c : Home) (t : Expr) → HasDone c t → (y : World) (g : Expr) → look Coloured z c t ≡ Turns y g → Changed y (stands_next c t) → y.crossings ≡ z.crossings ++ crossed (happening z c t)
  turning c (Marshal T m e) h y g q k = subst (λ a. Tells a (happening z c (Marshal T m e))) q (marshal_next c T m e h)
  turning c (Unmarshal T e) h y g q k = subst (λ a. Tells a (happening z c (Unmarshal T e))) q (unmarshal_next c T e h)
  turning c (Bracket b T e) h y g q (inl k) = no_more y (happening z c (Bracket b T e)) k.1 (bracket_quiet z c b T e)
  turning c (Bracket b T e) h y g q (inr k) = absurd k
  turning c _ h y g q (inl k) = no_more y [] k.1 refl
  turning c _ h y g q (inr k) = absurd k

  abbrev happens : Option Redex → List Event
  happens o = option_map_or (λ (r : Redex). happening z r.home r.term) o []

  -- what is next in a typed term, and in its redex
  abbrev TypedNext : Typ → Act Expr Value → Type 0
  TypedNext T a = ActOk z.environment (λ G x. Typed Coloured G x Main [] T) (λ G x. ValueTyped Coloured G x Main T) a

  whole_tells : (T : Typ) (a : Act Expr Value) (o : Option Redex) → TypedNext T a → NextIn Coloured z a o → Stays Coloured z a o → AllDone o → Tells a (happens o)
  whole_tells T (Is v) None k n s d = refl
  whole_tells T (Is v) (Some r) k n s d = absurd n
  whole_tells T (Goes t) None k n s d = absurd n
  whole_tells T (Goes t) (Some r) k (inl n) s d = quiet r.home r.term d (Goes n.0) n.1 tt
  whole_tells T (Goes t) (Some r) k (inr n) s d = quiet r.home r.term d (Raises n.0) n.1 tt
  whole_tells T (Turns y t) None k n s d = absurd n
  whole_tells T (Turns y t) (Some r) k n s d = turning r.home r.term d y n.0 n.1 s
  whole_tells T (Applies t) None k n s d = absurd n
  whole_tells T (Applies t) (Some r) k n s d = quiet r.home r.term d (Applies n.0) n.1 tt
  whole_tells T (Raises x) None k n s d = absurd n
  whole_tells T (Raises x) (Some r) k n s d = quiet r.home r.term d (Raises x) n tt
  whole_tells T Wrong o k n s d = absurd k

  as_before : (all : List Event) → crossed all ≡ [] → z.crossings ≡ z.crossings ++ crossed all
  as_before all q = sym (ap (λ l. z.crossings ++ l) q ∙ append-nil z.crossings)

  after_tells : (T : Typ) (N : ℕ) (a : Act Expr Value) (all : List Event) → TypedNext T a → Tells a all → crossings_in (after N z a) ≡ z.crossings ++ crossed all
  after_tells T N (Is v) all k h = as_before all h
  after_tells T N (Goes t) all k h = as_before all h
  after_tells T N (Turns y t) all k h = h
  after_tells T N (Applies t) all k h = by (nat_lt z.made N)
    where
      by : (b : Bool) → crossings_in (cond b (At t (counted z)) (Over (Spent z))) ≡ z.crossings ++ crossed all
      by true = as_before all h
      by false = as_before all h
  after_tells T N (Raises x) all k h = as_before all h
  after_tells T N Wrong all k h = absurd k

-- a step of a typed state
step_tells : (T : Typ) (N : ℕ) (s : State Expr Value) → IsTyped Coloured T s → crossings_in (step Coloured N s) ≡ crossings_in s ++ crossed (happening_in s)
step_tells T N (At e z) h =
    let k = kept arrives Coloured z h.0 e Main T refl h.1 in
    after_tells z T N (look_main Coloured z e) (happening_in (At e z)) k (whole_tells z T (look_main Coloured z e) (redex Main e) k (next Coloured z e Main) (stays Coloured z e Main) (done e Main))
step_tells T N (Over o) h = sym (append-nil (crossings_in (Over o)))

pub crossed_both : (xs ys : List Event) → crossed (xs ++ ys) ≡ crossed xs ++ crossed ys
crossed_both [] ys = refl
crossed_both (Born E x ∷ xs) ys = crossed_both xs ys
crossed_both (Gave s ∷ xs) ys = ap (λ l. Made s ∷ l) (crossed_both xs ys)
crossed_both (Took E s us ∷ xs) ys = ap (λ l. Read s ∷ l) (crossed_both xs ys)

-- so it is in each state of a run
pub run_tells : (T : Typ) (N k : ℕ) (s : State Expr Value) → IsTyped Coloured T s → crossings_in (iter (step Coloured N) k s) ≡ crossings_in s ++ crossed (events N k s)
run_tells T N zero s h = sym (append-nil (crossings_in s))
run_tells T N (suc k) s h =
    let new = happening_in s in
    let later = events N k (step Coloured N s) in
    run_tells T N k (step Coloured N s) (typing_kept arrives Coloured T N s h)
    ∙ ap (λ l. l ++ crossed later) (step_tells T N s h)
    ∙ append_assoc (crossings_in s) (crossed new) (crossed later)
    ∙ ap (λ l. crossings_in s ++ l) (sym (crossed_both new later))

pub program_tells : (E : Environment) (e : Expr) (T : Typ) → IsTypedProgram E e T → (input : Bytes) (sends : Bool) (N k : ℕ) → crossings_in (iter (step Coloured N) k (At e (fresh E input sends))) ≡ crossed (events N k (At e (fresh E input sends)))
program_tells E e T p input sends N k = run_tells T N k (At e (fresh E input sends)) (starts_typed E e T p input sends)
