use Rattle.std.proofs.Common.{◌∙◌, ap, refl}
use Rattle.ac_outside.specs.Kept.{Faulty}
use Rattle.ac_outside.specs.Outside.{risen}
use Rattle.ac_outside.proofs.world.MemoryWorldSource.read.Goals as goal

pub returns-then-next_fails-clause-rest : goal.returns-then-next_fails-clause-rest
returns-then-next_fails-clause-rest c = ap (λ (s : Faulty). s.world.left) c.self.view_is

pub returns-then-next_fails-clause-passes : goal.returns-then-next_fails-clause-passes
returns-then-next_fails-clause-passes c = (ap (λ (s : Faulty). s.world.console) c.self.view_is, ap (λ (s : Faulty). s.world.channel) c.self.view_is, ap (λ (s : Faulty). s.writes) c.self.view_is)

pub returns-then-next_fails-clause-made : goal.returns-then-next_fails-clause-made
returns-then-next_fails-clause-made c = c.count_failed.ensures.made ∙ c.next_fails.ensures.made ∙ ap (λ (s : Faulty). risen s.reads.made) c.self.view_is

pub returns-then-next_fails-clause-planned : goal.returns-then-next_fails-clause-planned
returns-then-next_fails-clause-planned c = c.count_failed.ensures.fail ∙ c.next_fails.ensures.fail ∙ ap (λ (s : Faulty). s.reads.fail) c.self.view_is

pub returns-then-next_fails-clause-unchanged : goal.returns-then-next_fails-clause-unchanged
returns-then-next_fails-clause-unchanged c = λ failed. (ap (λ (s : Faulty). s.world) c.self.view_is, refl)
