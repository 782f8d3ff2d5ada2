use Rattle.std.proofs.Common.{subst, ℕ}
use Rattle.ac_lexer.specs.Spellings.{SymbolBegins}
use Rattle.ac_lexer.proofs.Fronts.{no_symbol_front, symbol_token}
use Rattle.ac_lexer.proofs.words.symbol.Goals as goal

pub returns-then-count-eq0-clause-token : goal.returns-then-count-eq0-clause-token
returns-then-count-eq0-clause-token c =
    no_symbol_front _ (subst (λ (n : ℕ). SymbolBegins c.args.text.now n) c.if-count-eq0.true c.count_symbol-count.ensures) c.requires.no_digit c.requires.no_start c.requires.no_quote

pub returns-clause-token : goal.returns-clause-token
returns-clause-token c =
    symbol_token _ _ _ _ c.split_at.ensures.front c.split_at.ensures.back c.requires.no_comment c.count_symbol-count.ensures c.if-count-eq0.false c.requires.no_digit c.requires.no_start c.requires.no_quote _ c.in_ok-from_slice.ensures
