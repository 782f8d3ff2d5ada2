use Rattle.ac_terms.proofs.TermForms.{no_lambda}
use Rattle.ac_terms.proofs.term.Term.is_wanted.Goals as goal

pub returns-in_default : goal.returns-in_default
returns-in_default c = no_lambda c.args.self.now c.args.recursive c.in_default.not-Lam c.in_default.not-Rec
