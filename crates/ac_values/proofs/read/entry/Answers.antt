use Rattle.std.proofs.Common.{◌∙◌}
use Rattle.ac_values.proofs.ReadLaws.{entry_older}
use Rattle.ac_values.proofs.read.entry.Goals as goal

pub loop-preserved : goal.loop-preserved
loop-preserved c = c.loop.invariant ∙ entry_older c.args.i c.loop.counter _ _ _ c.loop-test.true c.in-Some.ensures.3
