use Rattle.std.proofs.Common.{◌≡◌, drop}
use Rattle.ac_generate.specs.inner.Drafts.{draft_of, address, jumps_at}
use Rattle.ac_generate.proofs.writer.Writer.land.Given as goal

abbrev pub invariant-loop-at : goal.invariant-loop-at
invariant-loop-at l = jumps_at (drop l.at-index l.jumps) (address (draft_of l.initial.self)) (draft_of l.self) ≡ jumps_at l.jumps (address (draft_of l.initial.self)) (draft_of l.initial.self)
