use Rattle.ac_syntax.proofs.TypeSteps.{no_suffix_at}
use Rattle.ac_syntax.proofs.types.next_suffix.Goals as goal

pub returns-in_err-rest-clause-found : goal.returns-in_err-rest-clause-found
returns-in_err-rest-clause-found c = rw c.from_residual.ensures (no_suffix_at _ c.in_default.ensures.found c.in_err-rest.ensures.found)
