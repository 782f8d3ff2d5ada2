use Rattle.std.proofs.Common.{◌≡◌, ◌<◌, ◌+◌, ◌*◌, ◌-◌, map, length}
use Rattle.ac_syntax.specs.Trees.{pat_trees, highest_pat}
use Rattle.ac_syntax.specs.Patterns.{Pattern, IsPatTree}
use Rattle.ac_syntax.specs.ReadSigns.{read_signs}
use Rattle.ac_syntax.specs.ReadTrees.{pat_of}
use Rattle.ac_syntax.specs.declared.sign.Symbol.TheVariants.{Comma, Close}
use Rattle.ac_parser_patterns.specs.Pieces.{Before}
use Rattle.ac_parser_patterns.proofs.Readers.{ManyRead}
use Rattle.ac_parser_patterns.proofs.patterns.+patterns.Given as goal

-- six for each sign, and one for each level
abbrev pub decreases-single : goal.decreases-single
decreases-single l = 6 * length l.signs.now

abbrev pub decreases-prefixed : goal.decreases-prefixed
decreases-prefixed l = 6 * length l.signs.now + 1

abbrev pub decreases-whole : goal.decreases-whole
decreases-whole l = 6 * length l.signs.now + 2

abbrev pub decreases-tuple : goal.decreases-tuple
decreases-tuple l = 6 * length l.signs.now + 3

abbrev pub decreases-enclosed : goal.decreases-enclosed
decreases-enclosed l = 6 * length l.signs.now + 4

abbrev pub decreases-opened : goal.decreases-opened
decreases-opened l = 6 * length l.signs.now + 5

abbrev pub invariant-tuple-loop-behind : goal.invariant-tuple-loop-behind
invariant-tuple-loop-behind l = record {
  read : ManyRead (Before Comma (IsPatTree (l.depth - 1) Pattern)) (Before Close (IsPatTree (l.depth - 1) Pattern)) (IsPatTree (l.depth - 1) Pattern) (pat_of l.fn.first.tree) (read_signs l.signs) (map pat_of l.parts) (read_signs l.rest);
  height : l.height ≡ highest_pat (pat_trees (map pat_of l.parts));
  low : l.height < l.depth;
  shorter : length l.rest < length l.signs;
}

abbrev pub decreases-tuple-loop-behind : goal.decreases-tuple-loop-behind
decreases-tuple-loop-behind l = length l.rest
