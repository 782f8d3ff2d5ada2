use Rattle.std.proofs.Common.{◌∙◌, ap, refl}
use Rattle.ac_outside.specs.Kept.{Fed}
use Rattle.ac_outside.specs.Outside.{risen}
use Rattle.ac_outside.proofs.source.MemorySourceSource.read.Goals as goal

pub returns-then-next_fails-clause-rest : goal.returns-then-next_fails-clause-rest
returns-then-next_fails-clause-rest c = ap (λ (s : Fed). s.left) c.self.view_is

pub returns-then-next_fails-clause-made : goal.returns-then-next_fails-clause-made
returns-then-next_fails-clause-made c = c.count_failed.ensures.made ∙ c.next_fails.ensures.made ∙ ap (λ (s : Fed). risen s.reads.made) c.self.view_is

pub returns-then-next_fails-clause-planned : goal.returns-then-next_fails-clause-planned
returns-then-next_fails-clause-planned c = c.count_failed.ensures.fail ∙ c.next_fails.ensures.fail ∙ ap (λ (s : Fed). s.reads.fail) c.self.view_is

pub returns-then-next_fails-clause-unchanged : goal.returns-then-next_fails-clause-unchanged
returns-then-next_fails-clause-unchanged c = λ failed. (ap (λ (s : Fed). s.left) c.self.view_is, refl)
