use Rattle.std.proofs.Common.{arith}
use Rattle.ac_decode.proofs.Decoding.{spelled, unspelled}
use Rattle.ac_decode.proofs.packets.decode.Goals as goal

pub returns-in-Ok-clause-packet : goal.returns-in-Ok-clause-packet
returns-in-Ok-clause-packet c = spelled c.args.bytes.now _ _ c.in-Ok.ensures (omega arith)

pub returns-in-Err-Misfit-clause-format : goal.returns-in-Err-Misfit-clause-format
returns-in-Err-Misfit-clause-format c = unspelled c.args.bytes.now (rw c.in-Err-Misfit.field-0-is at c.in-Err-Misfit.ensures)

pub returns-in-Err-Short-clause-format : goal.returns-in-Err-Short-clause-format
returns-in-Err-Short-clause-format c = unspelled c.args.bytes.now (rw c.in-Err-Short.field-0-is at c.in-Err-Short.ensures)
