use Rattle.std.proofs.Common.{◌≡◌, drop}
use Rattle.ac_lexer.proofs.Values.{value_after}
use Rattle.ac_lexer.proofs.words.value.Given as goal

abbrev pub invariant-loop-digit : goal.invariant-loop-digit
invariant-loop-digit l = value_after l.value (drop l.digit-index l.digits) ≡ value_after 0 l.digits
