use Rattle.std.proofs.Common.{◌≤◌, length}
use Rattle.ac_lexer.proofs.Strings.{Begun}
use Rattle.ac_lexer.proofs.quoted.quoted.Given as goal

abbrev pub invariant-loop-first : goal.invariant-loop-first
invariant-loop-first l = record {
  begun : Begun l.text l.content l.rest;
  within : length l.rest ≤ length l.text;
}

abbrev pub decreases-loop-first : goal.decreases-loop-first
decreases-loop-first l = length l.rest
