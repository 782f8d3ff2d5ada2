use Rattle.std.proofs.Common.{◌∙◌, arith}
use Rattle.ac_values.proofs.ReadLaws.{without_older}
use Rattle.ac_values.proofs.read.without.Goals as goal

pub loop-preserved : goal.loop-preserved
loop-preserved c =
    (omega (arith, c.in-Some.ensures.1, c.in-Some.ensures.2), c.loop.invariant.1 ∙ without_older c.args.n c.loop.counter _ _ _ c.loop-test.true c.in-Some.ensures.3)
