use Rattle.std.proofs.Common.{arith}
use Rattle.std.proofs.lemmas.Result.{err_from_is_err_and}
use Rattle.ac_syntax.proofs.OnStop.{on_syntax_more}
use Rattle.ac_parser_patterns.proofs.Readers.{then, first_none, later_none, one_name}
use Rattle.ac_parser_patterns.proofs.binders.typed.Goals as goal

pub returns-in_err-name : goal.returns-in_err-name
returns-in_err-name c =
    let p = err_from_is_err_and c.from_residual.result c.from_residual.ensures.1 in
    rw (p.1, p.2) (on_syntax_more _ first_none c.in_err-name.ensures)

pub returns-in_err-ty : goal.returns-in_err-ty
returns-in_err-ty c =
    let p = err_from_is_err_and c.from_residual-in_err-ty.result c.from_residual-in_err-ty.ensures.1 in
    rw (p.1, p.2) (on_syntax_more _ (later_none one_name c.in_ok-name.ensures.found) c.in_err-ty.ensures)

pub returns : goal.returns
returns c = record {
  found = then _ c.in_ok-name.ensures.found c.in_ok-ty.ensures.found;
  shorter = omega (arith, c.in_ok-name.ensures.shorter, c.in_ok-ty.ensures.shorter);
}
