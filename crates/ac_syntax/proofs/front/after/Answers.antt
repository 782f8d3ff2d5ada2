use Rattle.std.proofs.Common.{sym, subst}
use Rattle.ac_syntax.specs.ReadSigns.{read_signs}
use Rattle.ac_syntax.specs.PartParsing.{SymbolAt}
use Rattle.ac_syntax.specs.declared.sign.Symbol.{Symbol}
use Rattle.ac_syntax.proofs.SameSymbol.{same_symbol}
use Rattle.ac_syntax.proofs.front.after.Goals as goal

pub returns-in_err-found-clause-found : goal.returns-in_err-found-clause-found
returns-in_err-found-clause-found c = rw c.from_residual.ensures (λ rest at. c.in_err-found.ensures.found c.args.symbol rest at)

pub returns-then-eq-clause-found : goal.returns-then-eq-clause-found
returns-then-eq-clause-found c =
    subst (λ (s : Symbol). SymbolAt s (read_signs c.args.signs.now) (read_signs c.in_ok-found.rest.now)) (same_symbol _ _ (sym c.if-eq.ensures)) c.in_ok-found.ensures.found
