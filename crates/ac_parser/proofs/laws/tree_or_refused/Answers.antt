use Rattle.ac_syntax.specs.Programs.{IsProgram, IsModule}
use Rattle.ac_syntax.proofs.UniqueTexts.{tree_and_refusal}
use Rattle.ac_parser.proofs.laws.tree_or_refused.Goals as goal

pub returns-clause-program : goal.returns-clause-program
returns-clause-program c = tree_and_refusal IsProgram

pub returns-clause-module : goal.returns-clause-module
returns-clause-module c = tree_and_refusal IsModule
