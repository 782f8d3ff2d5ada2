use Rattle.ac_lexer.proofs.Unique as unique
use Rattle.ac_lexer.proofs.laws.same_tokens.Goals as goal

pub returns : goal.returns
returns c = unique.same_tokens
