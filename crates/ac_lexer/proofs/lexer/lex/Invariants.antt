use Rattle.std.proofs.Common.{◌≤◌, length}
use Rattle.ac_types.specs.Limits.{longest_text}
use Rattle.ac_lexer.specs.Tokens.{Reads}
use Rattle.ac_lexer.proofs.lexer.lex.Given as goal

abbrev pub decreases-loop-rest : goal.decreases-loop-rest
decreases-loop-rest l = length l.rest

abbrev pub invariant-loop-rest : goal.invariant-loop-rest
invariant-loop-rest l = record {
  reads : Reads l.text l.text l.tokens l.rest;
  within : length l.rest ≤ length l.text;
  short : length l.text ≤ longest_text;
}
