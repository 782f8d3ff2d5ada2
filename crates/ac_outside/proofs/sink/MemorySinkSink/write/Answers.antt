use Rattle.std.proofs.Common.{◌∙◌, [], ap, refl, sym}
use Rattle.std.proofs.lemmas.List.{append-nil}
use Rattle.ac_outside.specs.Kept.{Sunk}
use Rattle.ac_outside.proofs.sink.MemorySinkSink.write.Goals as goal

pub returns-then-next_fails-clause-bytes : goal.returns-then-next_fails-clause-bytes
returns-then-next_fails-clause-bytes c = record { front = []; rest = c.args.bytes.now; split = refl; new_is = ap (λ (s : Sunk). s.bytes) c.self.view_is ∙ sym (append-nil c.args.self.now.bytes) }

pub returns-then-next_fails-clause-unchanged : goal.returns-then-next_fails-clause-unchanged
returns-then-next_fails-clause-unchanged c = λ failed. ap (λ (s : Sunk). s.bytes) c.self.view_is
