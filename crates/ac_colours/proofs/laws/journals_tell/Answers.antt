use Rattle.ac_colours.proofs.Journals.{runs_tell, chain_ends, chain_tells, native, made_before_by_ends, made_before_by_journals}
use Rattle.ac_colours.proofs.laws.journals_tell.Goals as goal

pub returns-clause-runs : goal.returns-clause-runs
returns-clause-runs c = λ runs ends l e. runs_tell runs ends l e

pub returns-clause-chain : goal.returns-clause-chain
returns-clause-chain c = λ N parts input journals l j. chain_tells N parts input journals l j

pub returns-clause-journalled : goal.returns-clause-journalled
returns-clause-journalled c = λ N parts input journals j. chain_ends N parts input journals j

pub returns-clause-native : goal.returns-clause-native
returns-clause-native c = λ all journals is h. native all journals is h

pub returns-clause-run_births : goal.returns-clause-run_births
returns-clause-run_births c = λ runs ends l one e h. made_before_by_ends runs ends l one e h

pub returns-clause-births : goal.returns-clause-births
returns-clause-births c = λ N parts input journals l one j h. made_before_by_journals N parts input journals l one j h
