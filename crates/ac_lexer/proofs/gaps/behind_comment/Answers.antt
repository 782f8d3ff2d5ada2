use Rattle.std.proofs.Common.{arith, length, ap}
use Rattle.std.proofs.lemmas.List.{nil_from_length}
use Rattle.ac_lexer.proofs.Comments.{begun, opened, ended, whole, passed, unfinished}
use Rattle.ac_lexer.proofs.gaps.behind_comment.Goals as goal

pub loop-after-init : goal.loop-after-init
loop-after-init c = record { within = begun _; shorter = omega arith }

pub loop-after-preserved-in-Some-behind_opening : goal.loop-after-preserved-in-Some-behind_opening
loop-after-preserved-in-Some-behind_opening c =
    let len = ap length c.in-Some-behind_opening.ensures in
    record { within = opened c.loop-after.invariant.within c.in-Some-behind_opening.ensures; shorter = omega (arith, c.loop-after.invariant.shorter, len) }

pub returns-then-around-eq0-clause-comment : goal.returns-then-around-eq0-clause-comment
returns-then-around-eq0-clause-comment c = whole c.loop-after.invariant.within c.in-Some-behind_closing.ensures c.if-around-eq0.true

pub loop-after-preserved-in-Some-behind_closing : goal.loop-after-preserved-in-Some-behind_closing
loop-after-preserved-in-Some-behind_closing c =
    let len = ap length c.in-Some-behind_closing.ensures in
    record { within = ended _ c.loop-after.invariant.within c.in-Some-behind_closing.ensures (omega (arith, c.if-around-eq0.false)); shorter = omega (arith, c.loop-after.invariant.shorter, len) }

pub loop-after-preserved : goal.loop-after-preserved
loop-after-preserved c =
    record {
      within = passed c.loop-after.invariant.within c.in_default-behind_opening.ensures c.in_default-behind_closing.ensures c.in-Some.ensures.cases.0;
      shorter = omega (arith, c.loop-after.invariant.shorter, c.in-Some.ensures.cases.1);
    }

pub returns-clause-comment : goal.returns-clause-comment
returns-clause-comment c = unfinished c.loop-after.invariant.within (nil_from_length _ c.in_default.ensures.cases)
