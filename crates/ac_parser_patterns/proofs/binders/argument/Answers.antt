use Rattle.std.proofs.Common.{arith}
use Rattle.std.proofs.lemmas.Result.{err_from_is_err_and}
use Rattle.ac_syntax.specs.declared.sign.Symbol.TheVariants.{Close}
use Rattle.ac_syntax.proofs.OnStop.{on_syntax_more}
use Rattle.ac_parser_patterns.specs.Pieces.{IsTypedBinder, IsArgument, binder_of}
use Rattle.ac_parser_patterns.proofs.Readers.{no_symbol, behind, behind_none}
use Rattle.ac_parser_patterns.proofs.Passed.{reads_more}
use Rattle.ac_parser_patterns.proofs.binders.argument.Goals as goal

pub returns-in_err-inner : goal.returns-in_err-inner
returns-in_err-inner c =
    let p = err_from_is_err_and c.from_residual.result c.from_residual.ensures.1 in
    rw (p.1, p.2) (on_syntax_more _ no_symbol c.in_err-inner.ensures)

pub returns : goal.returns
returns c =
    reads_more binder_of (IsTypedBinder Close) IsArgument c.in_ok-inner.inner.now c.args.signs.now c.typed.result c.typed.ensures (omega (arith, c.in_ok-inner.ensures.shorter)) (λ x s o. behind c.in_ok-inner.ensures.found o) (behind_none c.in_ok-inner.ensures.found)
