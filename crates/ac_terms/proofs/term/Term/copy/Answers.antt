use Rattle.ac_terms.proofs.CopyLaws.{same_copy}
use Rattle.ac_terms.proofs.term.Term.copy.Goals as goal

pub returns : goal.returns
returns c = same_copy c.term.result c.args.self.now c.term.ensures
