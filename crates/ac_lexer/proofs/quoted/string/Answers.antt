use Rattle.ac_lexer.proofs.Fronts.{string_token, no_string_token}
use Rattle.ac_lexer.proofs.quoted.string.Goals as goal

pub returns-in_default-clause-token : goal.returns-in_default-clause-token
returns-in_default-clause-token c = no_string_token _ _ c.requires.quote c.split_at.ensures.back (rw c.in_default.is at c.in_ok-content.ensures.quoted)

pub returns-clause-token : goal.returns-clause-token
returns-clause-token c = string_token _ _ _ _ c.requires.quote c.split_at.ensures.back (rw c.in-Some.is at c.in_ok-content.ensures.quoted)
