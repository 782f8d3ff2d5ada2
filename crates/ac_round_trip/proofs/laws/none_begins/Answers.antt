use Rattle.ac_round_trip.proofs.NoneBegins.{types, patterns, terms, values, definitions, texts}
use Rattle.ac_round_trip.proofs.laws.none_begins.Goals as goal

pub returns-clause-types : goal.returns-clause-types
returns-clause-types c = types

pub returns-clause-patterns : goal.returns-clause-patterns
returns-clause-patterns c = patterns

pub returns-clause-terms : goal.returns-clause-terms
returns-clause-terms c = terms

pub returns-clause-values : goal.returns-clause-values
returns-clause-values c = values

pub returns-clause-definitions : goal.returns-clause-definitions
returns-clause-definitions c = definitions

pub returns-clause-texts : goal.returns-clause-texts
returns-clause-texts c = texts
