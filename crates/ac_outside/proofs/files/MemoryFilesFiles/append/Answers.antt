use Rattle.std.proofs.Common.{◌∙◌, ap, inl}
use Rattle.ac_outside.specs.Kept.{Filed, file_contents}
use Rattle.ac_outside.specs.Outside.{risen}
use Rattle.ac_outside.proofs.files.MemoryFilesFiles.append.Goals as goal

pub returns-then-next_fails-clause-bytes : goal.returns-then-next_fails-clause-bytes
returns-then-next_fails-clause-bytes c = inl (ap (λ (s : Filed). file_contents s.files c.args.name.now) c.self.view_is)

pub returns-then-next_fails-clause-others : goal.returns-then-next_fails-clause-others
returns-then-next_fails-clause-others c = λ other differs. ap (λ (s : Filed). file_contents s.files other) c.self.view_is

pub returns-then-next_fails-clause-made : goal.returns-then-next_fails-clause-made
returns-then-next_fails-clause-made c = c.count_failed.ensures.made ∙ c.next_fails.ensures.made ∙ ap (λ (s : Filed). risen s.writes.made) c.self.view_is

pub returns-then-next_fails-clause-planned : goal.returns-then-next_fails-clause-planned
returns-then-next_fails-clause-planned c = c.count_failed.ensures.fail ∙ c.next_fails.ensures.fail ∙ ap (λ (s : Filed). s.writes.fail) c.self.view_is

pub returns-then-next_fails-clause-writes : goal.returns-then-next_fails-clause-writes
returns-then-next_fails-clause-writes c = ap (λ (s : Filed). s.reads) c.self.view_is

pub returns-then-next_fails-clause-unchanged : goal.returns-then-next_fails-clause-unchanged
returns-then-next_fails-clause-unchanged c = λ failed. ap (λ (s : Filed). s.files) c.self.view_is
