use Rattle.ac_lexer.proofs.Strings.{plain_piece}
use Rattle.ac_lexer.proofs.quoted.piece.Goals as goal

pub returns-then-is_plain-clause-piece : goal.returns-then-is_plain-clause-piece
returns-then-is_plain-clause-piece c = plain_piece _ _ _ c.in_ok-first.ensures.cases.0 c.if-is_plain.ensures
