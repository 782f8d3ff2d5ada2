use Rattle.ac_syntax.specs.Programs.{IsProgram, IsModule}
use Rattle.ac_syntax.proofs.UniqueTexts.{one_refusal}
use Rattle.ac_parser.proofs.laws.one_cause.Goals as goal

pub returns-clause-program : goal.returns-clause-program
returns-clause-program c = one_refusal IsProgram

pub returns-clause-module : goal.returns-clause-module
returns-clause-module c = one_refusal IsModule
