use Rattle.std.proofs.Common.{arith}
use Rattle.ac_decode_pieces.proofs.Taken.{two_taken}
use Rattle.ac_decode_pieces.proofs.numbers.take_two.Goals as goal

pub returns-in-Some : goal.returns-in-Some
returns-in-Some c = two_taken _ _ _ (omega arith) c.in-Some.ensures.0
