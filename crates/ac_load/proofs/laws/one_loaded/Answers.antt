use Rattle.sha2.specs.Sha256.{sha256}
use Rattle.ac_load_rules.proofs.OneAnswer.{one_result}
use Rattle.ac_load.proofs.laws.one_loaded.Goals as goal

pub returns : goal.returns
returns c = λ text shelf E F e f T U a b. one_result sha256 a b
