use Rattle.ac_lexer.proofs.Unique as unique
use Rattle.ac_lexer.proofs.laws.tokens_or_fault.Goals as goal

pub returns : goal.returns
returns c = unique.no_failure
