use Rattle.std.proofs.Common.{arith}
use Rattle.ac_bytes.proofs.Inverse.{front_taken}
use Rattle.ac_bytes.proofs.numbers.name_in_front.Goals as goal

pub returns : goal.returns
returns c =
    let parts = c.in_ok-name.ensures.cases in
    front_taken 32 c.args.bytes.now c.in_ok-name.name.now c.in_ok-name.rest.now (omega (arith, parts.2)) parts.0 parts.1
