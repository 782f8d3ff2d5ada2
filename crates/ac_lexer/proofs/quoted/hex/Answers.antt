use Rattle.ac_lexer.proofs.Strings.{hex_piece}
use Rattle.ac_lexer.proofs.quoted.hex.Goals as goal

pub returns-clause-piece : goal.returns-clause-piece
returns-clause-piece c =
    hex_piece _ _ _ _ _ _ _ c.in_ok-high.ensures.cases.0 c.in_ok-low.ensures.cases.0 c.in_ok-hex_value.ensures.value c.in_ok-hex_value-2.ensures.value
