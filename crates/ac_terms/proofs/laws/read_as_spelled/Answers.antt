use Rattle.ac_terms.proofs.SpelledLaws.{read_is_spelled, spelled_is_read}
use Rattle.ac_terms.proofs.laws.read_as_spelled.Goals as goal

pub returns : goal.returns
returns c = λ bytes p. (read_is_spelled bytes p, spelled_is_read bytes p)
