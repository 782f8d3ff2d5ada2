use Rattle.std.proofs.Common.{List, subst}
use Rattle.ac_lexer.specs.declared.tokens.Token.{Token}
use Rattle.ac_syntax.specs.Signs.{signs}
use Rattle.ac_syntax.specs.Openers.{IsDeep}
use Rattle.ac_parser.proofs.TextLaws.{long_text, unlexed_text, deep_text}
use Rattle.ac_audit.proofs.tree.tokens.Goals as goal

pub returns-in-Err-TooLong-clause-fault : goal.returns-in-Err-TooLong-clause-fault
returns-in-Err-TooLong-clause-fault c = long_text _ _ (rw c.in-Err-TooLong.field-0-is at c.in-Err-TooLong.ensures.fault)

pub returns-in-Err-Lexical-clause-fault : goal.returns-in-Err-Lexical-clause-fault
returns-in-Err-Lexical-clause-fault c = unlexed_text _ _ (rw c.in-Err-Lexical.field-0-is at c.in-Err-Lexical.ensures.fault)

pub returns-in-Some-clause-fault : goal.returns-in-Some-clause-fault
returns-in-Some-clause-fault c =
    deep_text _ _ _ c.in-Ok.ensures.tokens.0 c.in-Ok.ensures.tokens.1 (subst (λ (l : List Token). IsDeep (signs l) c.in-Some.at) c.as_slice.ensures c.in-Some.ensures)
