use Rattle.ac_terms.proofs.DefBack.{spells_one}
use Rattle.ac_rules.proofs.laws.one_spelling.Goals as goal

pub returns : goal.returns
returns c = spells_one
