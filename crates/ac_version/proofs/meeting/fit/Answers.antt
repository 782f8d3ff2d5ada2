use Rattle.std.proofs.Common.{sym, ◌∙◌, arith}
use Rattle.ac_types.specs.ReadTypes.{atom_of, range_of}
use Rattle.ac_version.proofs.FitLaws.{too_few, left_over}
use Rattle.ac_version.proofs.meeting.fit.Goals as goal

pub returns-then-atoms-ranges : goal.returns-then-atoms-ranges
returns-then-atoms-ranges c = too_few range_of atom_of c.args.ranges.now c.args.star c.args.atoms.now c.if-atoms-ranges.true

pub returns-else-star : goal.returns-else-star
returns-else-star c =
    let e = c.loop-i.invariant.below in
    let t = c.loop-i-test.false in
    let all = c.loop-i.invariant.left in
    left_over range_of atom_of c.loop-i.i c.args.ranges.now c.args.star c.args.atoms.now c.if-star.false (omega arith) c.loop-i.invariant.enough ∙ sym all
