-- Runs from pause to pause, in a world.
use Rattle.std.proofs.Common.{◌≡◌, ℕ, zero, suc, ◌≤◌, refl, sym, ap, ◌∙◌, subst, arith, ⊎_elim}
use Rattle.std.proofs.lemmas.Bool.{cases_lt}
use Rattle.ac_terms.specs.Defs.{Environment}
use Rattle.ac_code.specs.Code.{Code}
use Rattle.ac_values.specs.Values.{MValue}
use Rattle.ac_machine_engine.specs.States.{Core, MState, Run, Paused, Stuck as StuckThere}
use Rattle.ac_machine_engine.specs.Machine.{exec, next, after_instructions}
use Rattle.ac_machine_engine.specs.Resumes.{At as Stands}
use Rattle.ac_machine_engine.specs.Runs.{IsPaused, Pauses, Reaches}
use Rattle.ac_meaning.specs.Worlds.{World}
use Rattle.ac_meaning.specs.Acts.{Outcome, Stuck, Over, iter, Leads}
use Rattle.ac_meaning.proofs.Runs.{iter_still, leads_on}
use Rattle.ac_machine_proof.specs.Running.{Running, on, machine_step}

-- a later state of a run, and a state behind its end
ahead : {S : Type 0} (f : S → S) (j k : ℕ) (r s u : S) → j ≤ k → iter f j r ≡ s → iter f k r ≡ u → Leads f s u
ahead f zero k r s u le e h = (k, ap (iter f k) (sym e) ∙ h)
ahead f (suc j) zero r s u le e h = absurd (omega (arith, le))
ahead f (suc j) (suc k) r s u le e h = ahead f j k (f r) s u (omega (arith, le)) e h

behind : {S : Type 0} (f : S → S) (j k : ℕ) (r s u : S) → f s ≡ s → j ≤ k → iter f j r ≡ s → iter f k r ≡ u → s ≡ u
behind f zero k r s u still le e h = sym (iter_still f k s still) ∙ ap (iter f k) (sym e) ∙ h
behind f (suc j) zero r s u still le e h = absurd (omega (arith, le))
behind f (suc j) (suc k) r s u still le e h = behind f j k (f r) s u still (omega (arith, le)) e h

stuck_end : (k : ℕ) (o : Outcome (Code × MValue)) → iter machine_step k (Over Stuck) ≡ Over o → o ≡ Stuck
stuck_end k o e = let same = iter_still machine_step k (Over Stuck) refl in cc

after_still : (E : Environment) (K : Code) (k : ℕ) (s : MState) → next E K s ≡ s → after_instructions E K k s ≡ s
unfolding after_instructions
after_still E K zero s e = refl
after_still E K (suc k) s e = ap (after_instructions E K k) e ∙ after_still E K k s e

-- instructions that lead to a pause lead there in each world
pub runs_on : (K : Code) (s t : MState) (z : World) → IsPaused t → Reaches z.environment K (Stands s) t → Leads machine_step (on K s z) (on K t z)
unfolding after_instructions
runs_on K s t z p r = by r.0 s r.1
  where
    by : (k : ℕ) (s : MState) → after_instructions z.environment K k s ≡ t → Leads machine_step (on K s z) (on K t z)
    by zero s e = (0, ap (λ s. on K s z) e)
    by (suc k) (Run c) e = leads_on machine_step (on K (Run c) z) (on K (exec z.environment K c) z) (on K t z) (1, refl) (by k (exec z.environment K c) e)
    by (suc k) (Paused a c) e = (0, ap (λ s. on K s z) (sym (after_still z.environment K k (Paused a c) refl) ∙ e))
    by (suc k) StuckThere e = absurd (subst IsPaused (sym (sym (after_still z.environment K k StuckThere refl) ∙ e)) p)

-- where a run doesn't get stuck, the machine pauses
pub pauses_ahead : (K : Code) (c : Core) (z : World) (o : Outcome (Code × MValue)) → (o ≡ Stuck → ⊥) → Leads machine_step (on K (Run c) z) (Over o) → Pauses z.environment K (Stands (Run c))
unfolding after_instructions
pauses_ahead K c z o u l = by l.0 (Run c) l.1
  where
    by : (k : ℕ) (s : MState) → iter machine_step k (on K s z) ≡ Over o → (n : ℕ) × IsPaused (after_instructions z.environment K n s)
    by zero s e = absurd cc
    by (suc k) (Run c) e = let h = by k (exec z.environment K c) e in (suc h.0, h.1)
    by (suc k) (Paused a c) e = (0, tt)
    by (suc k) StuckThere e = absurd (u (stuck_end k o e))

-- what a run leads to before its end leads to the same end
pub leads_ahead : (r s : Running) (o : Outcome (Code × MValue)) → Leads machine_step r s → Leads machine_step r (Over o) → Leads machine_step s (Over o)
leads_ahead r s o a b = ⊎_elim (λ lt. ahead machine_step a.0 b.0 r s (Over o) (omega (arith, lt)) a.1 b.1) (λ ge. (0, sym (behind machine_step b.0 a.0 r (Over o) s refl ge b.1 a.1))) (cases_lt a.0 b.0)
