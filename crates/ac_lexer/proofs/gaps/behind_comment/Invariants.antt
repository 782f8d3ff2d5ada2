use Rattle.std.proofs.Common.{◌+◌, ◌≤◌, length}
use Rattle.ac_lexer.proofs.Comments.{Within}
use Rattle.ac_lexer.proofs.gaps.behind_comment.Given as goal

abbrev pub invariant-loop-after : goal.invariant-loop-after
invariant-loop-after l = record {
  within : Within l.text l.around l.rest;
  shorter : l.around + length l.rest ≤ length l.text;
}

abbrev pub decreases-loop-after : goal.decreases-loop-after
decreases-loop-after l = length l.rest
