use Rattle.std.proofs.Common.{map, length}
use Rattle.ac_syntax.specs.ReadSigns.{read_signs}
use Rattle.ac_syntax.specs.ReadTrees.{def_tree_of}
use Rattle.ac_parser.specs.inner.ProgramParsing.{DefsSoFar}
use Rattle.ac_parser.proofs.programs.definitions.Given as goal

abbrev pub invariant-loop-defs : goal.invariant-loop-defs
invariant-loop-defs l = DefsSoFar (read_signs l.signs) (map def_tree_of l.defs) (read_signs l.rest)

abbrev pub decreases-loop-defs : goal.decreases-loop-defs
decreases-loop-defs l = length l.rest
