use Rattle.std.proofs.Common.{refl, arith}
use Rattle.acute_answers.proofs.VerdictLines.{line_more, lines_end}
use Rattle.acute_answers.proofs.checking.lines_of.Goals as goal

pub loop-i-init : goal.loop-i-init
loop-i-init c = rw c.new-lines.ensures refl

pub loop-i-preserved : goal.loop-i-preserved
loop-i-preserved c = line_more c.args.names.now c.args.verdicts.now c.loop-i.i _ _ _ _ _ c.loop-i-test.true (omega (arith, c.requires, c.loop-i-test.true)) c.loop-i.invariant c.in_ok-put_line.ensures

pub returns : goal.returns
returns c = lines_end c.args.names.now c.args.verdicts.now c.loop-i.i _ _ (omega (arith, c.loop-i-test.false)) c.loop-i.invariant
