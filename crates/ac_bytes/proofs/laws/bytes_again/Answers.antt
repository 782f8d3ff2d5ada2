use Rattle.ac_bytes.proofs.Inverse as inverse
use Rattle.ac_bytes.proofs.laws.bytes_again.Goals as goal

pub returns : goal.returns
returns c = inverse.bytes_again
