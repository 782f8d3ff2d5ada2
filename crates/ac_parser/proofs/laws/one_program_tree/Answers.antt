use Rattle.ac_syntax.proofs.UniqueTexts.{one_program_text}
use Rattle.ac_parser.proofs.laws.one_program_tree.Goals as goal

pub returns : goal.returns
returns c = one_program_text
