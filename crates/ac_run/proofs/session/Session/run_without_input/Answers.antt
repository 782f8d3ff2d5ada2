use Rattle.std.proofs.Common.{[], refl}
use Rattle.ac_run.proofs.session.Session.run_without_input.Goals as goal

pub returns-clause-ends : goal.returns-clause-ends
returns-clause-ends g c = λ none. (c.run_from.ensures.ends none).2 [] refl
