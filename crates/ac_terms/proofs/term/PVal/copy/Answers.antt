use Rattle.ac_terms.proofs.CopyLaws.{same_value_copy}
use Rattle.ac_terms.proofs.term.PVal.copy.Goals as goal

pub returns : goal.returns
returns c = same_value_copy c.value.result c.args.self.now c.value.ensures
