use Rattle.ac_lexer.proofs.Fronts.{number_token, no_number}
use Rattle.ac_lexer.proofs.words.number.Goals as goal

pub returns-in_err-value-clause-token : goal.returns-in_err-value-clause-token
returns-in_err-value-clause-token c =
    rw c.from_residual.ensures (no_number _ _ _ _ c.split_at.ensures.front c.split_at.ensures.back c.requires.no_comment c.requires.digit c.count_digits.ensures.count c.in_err-value.ensures)

pub returns-clause-token : goal.returns-clause-token
returns-clause-token c =
    number_token _ _ _ _ c.split_at.ensures.front c.split_at.ensures.back c.requires.no_comment c.requires.digit c.count_digits.ensures.count _ c.in_ok-value.ensures.0 c.in_ok-value.ensures.1
