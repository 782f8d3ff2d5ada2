use Rattle.ac_terms.proofs.TableBack.{any_read_is_spelled, any_spelled_is_read, spells_in_one}
use Rattle.ac_terms.proofs.laws.read_in_one_version.Goals as goal

pub returns-clause-read : goal.returns-clause-read
returns-clause-read c = λ bytes p. (any_read_is_spelled bytes p, any_spelled_is_read bytes p)

pub returns-clause-one : goal.returns-clause-one
returns-clause-one c = spells_in_one
