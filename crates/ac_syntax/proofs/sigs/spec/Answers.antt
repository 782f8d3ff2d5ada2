use Rattle.ac_syntax.proofs.OnStop.{refused}
use Rattle.ac_syntax.proofs.SigSteps.{no_spec_word}
use Rattle.ac_syntax.proofs.sigs.spec.Goals as goal

pub returns-in_default-after-clause-none : goal.returns-in_default-after-clause-none
returns-in_default-after-clause-none c = refused _ _ c.refused_at.ensures (no_spec_word _ c.in_default.ensures.found c.in_default-after.ensures.found)
