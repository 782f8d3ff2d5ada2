use Rattle.std.proofs.Common.{◌≡◌, ◌∙◌, sym, subst, ℕ, suc, ◌-◌, ◌<◌, ◌≤◌, length, true, false}
use native.Mathlib.Omega.{arith}
use Rattle.ac_terms.specs.Read.{environment_of}
use Rattle.ac_link.specs.Fronts.{IsFront}
use Rattle.ac_link.specs.inner.Candidates.{arrived_at}
use Rattle.ac_link.proofs.FrontLaws.{front_less, front_least}
use Rattle.ac_link.proofs.arrived.front.Goals as goal

pub returns-then-not-arrived_at-clause-least : goal.returns-then-not-arrived_at-clause-least
returns-then-not-arrived_at-clause-least c =
    let E = environment_of c.args.env.now in
    let n : ℕ = c.loop-front.front in
    let some : 0 < n = c.loop-front-test.true in
    let within : n ≤ length E = c.loop-front.invariant.0 in
    let last : arrived_at E (n - 1) ≡ false = sym c.arrived_at.ensures ∙ c.if-not-arrived_at.true in
    λ k h. let l : suc (n - 1) ≤ k = front_least E (n - 1) last (omega arith) k h in omega arith

pub loop-front-preserved : goal.loop-front-preserved
loop-front-preserved c =
    let E = environment_of c.args.env.now in
    let n : ℕ = c.loop-front.front in
    let some : 0 < n = c.loop-front-test.true in
    let last : arrived_at E (n - 1) ≡ true = sym c.arrived_at.ensures ∙ c.if-not-arrived_at.false in
    let e : n ≡ suc (n - 1) = omega arith in
    front_less E (n - 1) last (subst (IsFront E) e c.loop-front.invariant)
