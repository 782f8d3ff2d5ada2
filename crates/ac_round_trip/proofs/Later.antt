-- The definitions of a typed program's run only grow, from each state to each later one.
use Rattle.std.proofs.Common.{◌≡◌, refl, subst, ℕ, zero, suc, Bool, true, false, nat_lt, cond, []}
use Rattle.ac_types.specs.Types.{Bytes, Typ}
use Rattle.ac_terms.specs.Terms.{Main, Expr, Value}
use Rattle.ac_terms.specs.Defs.{Environment}
use Rattle.ac_rules.specs.Views.{Mode}
use Rattle.ac_rules.specs.Typing.{all_of}
use Rattle.ac_rules.specs.Coherent.{IsCoherent}
use Rattle.ac_rules.specs.Growth.{Grows}
use Rattle.ac_rules.proofs.Growth.{grows_not, grows_on}
use Rattle.ac_meaning.specs.Worlds.{World, fresh, counted}
use Rattle.ac_meaning.specs.Acts.{Act, Is, Goes, Turns, Applies, Raises, Wrong, Spent, State, At, Over, after, iter, Leads}
use Rattle.ac_meaning.specs.Reduction.{look_main, step}
use Rattle.ac_meaning.specs.Laws.{IsTypedProgram}
use Rattle.ac_meaning.specs.Typed.{Typed, ValueTyped}
use Rattle.ac_meaning.specs.TypedStates.{IsTyped}
use Rattle.ac_meaning.proofs.Admitted.{arrives}
use Rattle.ac_meaning.proofs.FromTypes.{typed_from}
use Rattle.ac_meaning.proofs.Homes.{lower}
use Rattle.ac_meaning.proofs.Kept.{ActOk, kept, typing_kept}
use Rattle.ac_meaning.proofs.KnownNames.{known_types}

module _ (mode : Mode) (T : Typ) (N : ℕ) where
  -- a state that goes on has the definitions of E, and perhaps more
  abbrev HasGrown : Environment → State Expr Value → Type 0
  HasGrown E (At t z) = Grows E z.environment
  HasGrown E (Over o) = Unit {0}

  grown_on : (E F : Environment) → Grows E F → (s : State Expr Value) → HasGrown F s → HasGrown E s
  grown_on E F g (At t z) h = grows_on E F z.environment g h
  grown_on E F g (Over o) h = tt

  module _ (z : World) (coherent : IsCoherent z.environment) where
    abbrev Good : Act Expr Value → Type 0
    Good a = ActOk z.environment (λ F e. Typed mode F e Main [] T) (λ F v. ValueTyped mode F v Main T) a

    by_act : (a : Act Expr Value) → Good a → HasGrown z.environment (after N z a)
    by_act (Is v) h = tt
    by_act (Goes t) h = grows_not z.environment coherent
    by_act (Turns y t) h = h.0
    by_act (Applies t) h = by (nat_lt z.made N)
      where
        by : (b : Bool) → HasGrown z.environment (cond b (At t (counted z)) (Over (Spent z)))
        by true = grows_not z.environment coherent
        by false = tt
    by_act (Raises x) h = tt
    by_act Wrong h = tt

  step_grows : (s : State Expr Value) → IsTyped mode T s → (E : Environment) → HasGrown E s → HasGrown E (step mode N s)
  step_grows (At e z) t E h = grown_on E z.environment h (step mode N (At e z)) (by_act z t.0 (look_main mode z e) (kept arrives mode z t.0 e Main T refl t.1))
  step_grows (Over o) t E h = tt

  run_grows : (k : ℕ) (s : State Expr Value) → IsTyped mode T s → (E : Environment) → HasGrown E s → HasGrown E (iter (step mode N) k s)
  run_grows zero s t E h = h
  run_grows (suc k) s t E h = run_grows k (step mode N s) (typing_kept arrives mode T N s t) E (step_grows s t E h)

  run_typed : (k : ℕ) (s : State Expr Value) → IsTyped mode T s → IsTyped mode T (iter (step mode N) k s)
  run_typed zero s t = t
  run_typed (suc k) s t = run_typed k (step mode N s) (typing_kept arrives mode T N s t)

  later_grows : (t u : Expr) (z y : World) → IsTyped mode T (At t z) → Leads (step mode N) (At t z) (At u y) → Grows z.environment y.environment
  later_grows t u z y h leads = subst (HasGrown z.environment) leads.1 (run_grows leads.0 (At t z) h z.environment (grows_not z.environment h.0))

pub grows_later : (E : Environment) (e : Expr) (T : Typ) → IsTypedProgram E e T → (mode : Mode) (input : Bytes) (sends : Bool) (N : ℕ) (t : Expr) (z : World) → Leads (step mode N) (At e (fresh E input sends)) (At t z) →
    (u : Expr) (y : World) → Leads (step mode N) (At t z) (At u y) → Grows z.environment y.environment
grows_later E e T p mode input sends N t z leads u y later =
    let start : IsTyped mode (lower E mode T) (At e (fresh E input sends)) = (p.coherent, typed_from E p.coherent (known_types E p.coherent) mode e (all_of E Main) T p.source p.typed) in
    later_grows mode (lower E mode T) N t u z y (subst (IsTyped mode (lower E mode T)) leads.1 (run_typed mode (lower E mode T) N leads.0 (At e (fresh E input sends)) start)) later
