use Rattle.std.proofs.Common.{◌<◌, length, refl, arith}
use Rattle.ac_outside.proofs.FrameLaws.{few}
use Rattle.ac_outside.proofs.frames.ended.Goals as goal

pub returns-clause-goes : goal.returns-clause-goes
returns-clause-goes c =
    let some : 0 < length c.args.head.now = grind arith in
    let less : length c.args.head.now < 4 = c.requires in
    (record { bytes = c.args.head.now; is = few c.args.head.now some less }, refl)
