use Rattle.ac_round_trip.proofs.NoneBegins.{tabled_types, tabled_patterns, tabled_terms, tabled_values, tabled_definitions}
use Rattle.ac_round_trip.proofs.laws.none_begins_by_table.Goals as goal

pub returns-clause-types : goal.returns-clause-types
returns-clause-types c = tabled_types

pub returns-clause-patterns : goal.returns-clause-patterns
returns-clause-patterns c = tabled_patterns

pub returns-clause-terms : goal.returns-clause-terms
returns-clause-terms c = λ table within few. tabled_terms table few within

pub returns-clause-values : goal.returns-clause-values
returns-clause-values c = tabled_values

pub returns-clause-definitions : goal.returns-clause-definitions
returns-clause-definitions c = tabled_definitions
