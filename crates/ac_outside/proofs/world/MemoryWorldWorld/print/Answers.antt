use Rattle.std.proofs.Common.{◌∙◌, [], ap, refl, sym}
use Rattle.std.proofs.lemmas.List.{append-nil}
use Rattle.ac_outside.specs.Kept.{Faulty}
use Rattle.ac_outside.specs.Outside.{risen}
use Rattle.ac_outside.proofs.world.MemoryWorldWorld.print.Goals as goal

pub returns-then-next_fails-clause-bytes : goal.returns-then-next_fails-clause-bytes
returns-then-next_fails-clause-bytes c = record { front = []; rest = c.args.bytes.now; split = refl; new_is = ap (λ (s : Faulty). s.world.console) c.self.view_is ∙ sym (append-nil c.args.self.now.world.console) }

pub returns-then-next_fails-clause-others : goal.returns-then-next_fails-clause-others
returns-then-next_fails-clause-others c = (ap (λ (s : Faulty). s.world.left) c.self.view_is, ap (λ (s : Faulty). s.world.channel) c.self.view_is)

pub returns-then-next_fails-clause-made : goal.returns-then-next_fails-clause-made
returns-then-next_fails-clause-made c = c.count_failed.ensures.made ∙ c.next_fails.ensures.made ∙ ap (λ (s : Faulty). risen s.writes.made) c.self.view_is

pub returns-then-next_fails-clause-planned : goal.returns-then-next_fails-clause-planned
returns-then-next_fails-clause-planned c = c.count_failed.ensures.fail ∙ c.next_fails.ensures.fail ∙ ap (λ (s : Faulty). s.writes.fail) c.self.view_is

pub returns-then-next_fails-clause-reads : goal.returns-then-next_fails-clause-reads
returns-then-next_fails-clause-reads c = ap (λ (s : Faulty). s.reads) c.self.view_is

pub returns-then-next_fails-clause-unchanged : goal.returns-then-next_fails-clause-unchanged
returns-then-next_fails-clause-unchanged c = λ failed. ap (λ (s : Faulty). s.world) c.self.view_is
