use Rattle.ac_bytes.proofs.Inverse as inverse
use Rattle.ac_bytes.proofs.laws.signed_taken_again.Goals as goal

pub returns : goal.returns
returns c = inverse.signed_taken_again
