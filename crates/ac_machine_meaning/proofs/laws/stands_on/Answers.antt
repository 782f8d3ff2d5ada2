use Rattle.ac_machine_meaning.proofs.Meanings.{meaning_stays}
use Rattle.ac_machine_meaning.proofs.laws.stands_on.Goals as goal

pub returns : goal.returns
returns c = λ K L more m e v. meaning_stays K L (more, e) m v
