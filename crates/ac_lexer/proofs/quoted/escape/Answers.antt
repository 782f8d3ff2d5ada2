use Rattle.ac_lexer.proofs.Strings.{escape_piece}
use Rattle.ac_lexer.proofs.quoted.escape.Goals as goal

pub returns-clause-piece : goal.returns-clause-piece
returns-clause-piece c = escape_piece _ _ _ _ c.in_ok-first.ensures.cases.0 c.in_ok-escaped.ensures
