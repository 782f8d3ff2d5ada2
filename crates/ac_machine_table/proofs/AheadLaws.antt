-- An engine that goes ahead of a machine in its state.
use Rattle.std.proofs.Common.{Bool, true, false, Option, Some, None, MatchOption, ◌≡◌, ℕ, zero, suc, ◌+◌, List, refl, sym, ◌∙◌, ap, subst, arith}
use Rattle.ac_terms.specs.Defs.{Environment}
use Rattle.ac_code.specs.Code.{Code}
use Rattle.ac_values.specs.declared.node.Node.{Node}
use Rattle.ac_machine_engine.specs.declared.engine.Engine.{Engine}
use Rattle.ac_machine_engine.specs.declared.engine.Step.{Step}
use Rattle.ac_machine_engine.specs.declared.engine.Step.TheVariants.{On, Pausing, Wrong}
use Rattle.ac_machine_engine.specs.declared.pause.Pause.{Pause}
use Rattle.ac_machine_engine.specs.declared.pause.Pause.TheVariants as answers
use Rattle.ac_machine_engine.specs.States.{Core, Ask, MState, Run, Paused, Stuck, state_given}
use Rattle.ac_machine_engine.specs.Machine.{exec, after_instructions}
use Rattle.ac_machine_engine.specs.Resumes.{Wait, Standing, At, Waits, paused_at, resumed}
use Rattle.ac_machine_engine.specs.Held.{core}
use Rattle.ac_machine_engine.specs.Seen.{MachineSeen, standing, ask_of}
use Rattle.ac_machine_engine.specs.Steps.{Does, Goes, StopsThere}
use Rattle.ac_machine_engine.specs.Runs.{Pauses, Reaches, Stopped, Went}
use Rattle.ac_machine.proofs.RunLaws.{reaches_next, after_plus}

-- each pause but want of memory asks for something
asks : (ns : List Node) (p : Pause) → (p ≡ answers.Memory → ⊥) → (a : Ask) × (ask_of ns p ≡ Some a)
asks ns (answers.Print text) h = (_, refl)
asks ns (answers.Send text) h = (_, refl)
asks ns answers.Receive h = (_, refl)
asks ns (answers.Marshal mark value ty home) h = (_, refl)
asks ns (answers.Unmarshal text ty) h = (_, refl)
asks ns answers.Done h = (_, refl)
asks ns (answers.Raised e) h = (_, refl)
asks ns answers.Spent h = (_, refl)
asks ns answers.Memory h = absurd (h refl)

not_on : (o : Option Ask) (c d : Core) → Run c ≡ state_given o (λ a. Paused a d) → ⊥
not_on None c d e = cc
not_on (Some a) c d e = cc

-- what comes to a state that goes on goes on
pub on_only : (m : Engine) (s : Step) (c : Core) → Does m s (Run c) → Goes m (Run c)
on_only m On c d = d
on_only m (Pausing p) c d = let g : StopsThere m p (Run c) = d in absurd (not_on (ask_of m.store p) c (core m) g.is)
on_only m Wrong c d = let e : Run c ≡ Stuck = d in absurd (cc)

-- a machine that waits stands, once answered, at the state that the answer makes
pub answered_at : (f : Core → MState) (s t : Standing) (w : Wait) (c : Core) (x : MState) → s ≡ Waits w c → t ≡ resumed f s → f c ≡ x → t ≡ At x
answered_at f s t w c x e g h = g ∙ ap (resumed f) e ∙ ap At h

module _ (E : Environment) (K : Code) where
  pub on_there : (old now new : Engine) → Reaches E K (At (Run (core old))) (Run (core now)) → Goes new (exec E K (core now)) → Reaches E K (At (Run (core old))) (Run (core new))
  on_there old now new r g = reaches_next E K (Run (core old)) (core now) (Run (core new)) r g.is

  pub ends_there : (old now new : Engine) (p : Pause) → Reaches E K (At (Run (core old))) (Run (core now)) → StopsThere new p (exec E K (core now)) → (p ≡ answers.Memory → ⊥) →
      (a : Ask) × Reaches E K (At (Run (core old))) (Paused a (core new))
  ends_there old now new p r g h =
      let q = asks new.store p h in
      (q.0, reaches_next E K (Run (core old)) (core now) (Paused q.0 (core new)) r (g.is ∙ ap (λ (o : Option Ask). state_given o (λ a. Paused a (core new))) q.1))

  after_paused : (k : ℕ) (a : Ask) (c : Core) → after_instructions E K k (Paused a c) ≡ Paused a c
  unfolding after_instructions
  after_paused zero a c = refl
  after_paused (suc k) a c = after_paused k a c

  -- a state comes to one pause
  one_pause : (s : MState) (a b : Ask) (c d : Core) → Reaches E K (At s) (Paused a c) → Reaches E K (At s) (Paused b d) → Paused a c ≡ Paused b d
  one_pause s a b c d p q =
      let j = p.0 in let k = q.0 in
      let e : j + k ≡ k + j = omega arith in
      sym (after_paused k a c) ∙ ap (after_instructions E K k) (sym p.1) ∙ sym (after_plus E K j k s) ∙ ap (λ n. after_instructions E K n s) e ∙ after_plus E K k j s ∙ ap (after_instructions E K j) q.1 ∙ after_paused j b d

  -- a machine that has stopped is at a pause
  pub pauses_here : (t : Standing) → (a : Ask) × (c : Core) × (t ≡ At (Paused a c)) → Pauses E K t
  unfolding after_instructions
  pauses_here t h = subst (Pauses E K) (sym h.2) (0, tt)

  stands_alike : (t : Standing) (new : MachineSeen) (e f : Engine) (p : Pause) → t ≡ At (Run (core e)) → (a : Ask) × Reaches E K (At (Run (core e))) (Paused a (core f)) → Went E K t new p → (p ≡ answers.Memory → ⊥) →
      MatchOption (ask_of new.engine.store p) ⊥ (λ a. standing new ≡ paused_at a (core f))
  stands_alike t new e f p s r w h =
      let q = asks new.engine.store p h in
      let d : Stopped E K t new q.0 = subst (λ (o : Option Ask). MatchOption o (new.lost ≡ true) (Stopped E K t new)) q.1 w in
      let here : Reaches E K (At (Run (core e))) (Paused q.0 (core new.engine)) = subst (λ (u : Standing). Reaches E K u (Paused q.0 (core new.engine))) s d.reaches in
      let one : Paused q.0 (core new.engine) ≡ Paused r.0 (core f) = one_pause (Run (core e)) q.0 r.0 (core new.engine) (core f) here r.1 in
      let same : core new.engine ≡ core f = cc in
      rw q.1 (d.stands ∙ ap (paused_at q.0) same)

  -- it stands there in the state of the engine
  pub alike : (old new : MachineSeen) (e f : Engine) (p : Pause) → standing old ≡ At (Run (core e)) → (a : Ask) × Reaches E K (At (Run (core e))) (Paused a (core f)) →
      (old.lost ≡ false → Went E K (standing old) new p) → (old.lost ≡ true → (p ≡ answers.Memory) × (new.lost ≡ true)) → (p ≡ answers.Memory → ⊥) →
      MatchOption (ask_of new.engine.store p) ⊥ (λ a. standing new ≡ paused_at a (core f))
  alike old new e f p s r went lost h = on old.lost went lost where
    on : (b : Bool) → (b ≡ false → Went E K (standing old) new p) → (b ≡ true → (p ≡ answers.Memory) × (new.lost ≡ true)) → MatchOption (ask_of new.engine.store p) ⊥ (λ a. standing new ≡ paused_at a (core f))
    on true w l = absurd (h (l refl).0)
    on false w l = stands_alike (standing old) new e f p s r (w refl) h
