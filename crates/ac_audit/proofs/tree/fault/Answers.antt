use Rattle.ac_parser.proofs.TextLaws.{memory_fault, syntax_fault}
use Rattle.ac_audit.proofs.tree.fault.Goals as goal

pub returns-in-Memory : goal.returns-in-Memory
returns-in-Memory c = memory_fault _ _ _ c.in-Memory.is

pub returns-in-Syntax : goal.returns-in-Syntax
returns-in-Syntax c = syntax_fault _ _ _ _ _ c.in-Syntax.is c.place.ensures
