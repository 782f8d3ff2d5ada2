use Rattle.ac_colours.proofs.NextRedex.{no_redex, of_value, in_redex}
use Rattle.ac_meaning.specs.Acts.{Turns, Applies, Raises, Goes}
use Rattle.ac_colours.proofs.laws.redex_is_next.Goals as goal

pub returns-clause-value : goal.returns-clause-value
returns-clause-value c = no_redex

pub returns-clause-none : goal.returns-clause-none
returns-clause-none c = of_value

pub returns-clause-turns : goal.returns-clause-turns
returns-clause-turns c = λ mode z y e f r q h. in_redex mode z e r (Turns y f) q h

pub returns-clause-applies : goal.returns-clause-applies
returns-clause-applies c = λ mode z e f r q h. in_redex mode z e r (Applies f) q h

pub returns-clause-raises : goal.returns-clause-raises
returns-clause-raises c = λ mode z e r x q h. in_redex mode z e r (Raises x) q h

pub returns-clause-goes : goal.returns-clause-goes
returns-clause-goes c = λ mode z e f r q h. in_redex mode z e r (Goes f) q h
