use Rattle.ac_syntax.proofs.UniqueTexts.{one_module_text}
use Rattle.ac_parser.proofs.laws.one_module_tree.Goals as goal

pub returns : goal.returns
returns c = one_module_text
