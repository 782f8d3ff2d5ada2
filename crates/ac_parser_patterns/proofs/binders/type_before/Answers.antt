use Rattle.std.proofs.Common.{arith}
use Rattle.std.proofs.lemmas.Result.{err_from_is_err_and}
use Rattle.ac_syntax.specs.TypeForms.{IsType}
use Rattle.ac_syntax.proofs.OnStop.{on_syntax_more}
use Rattle.ac_parser_patterns.proofs.Readers.{before, before_none, symbol_none, one_type}
use Rattle.ac_parser_patterns.proofs.binders.type_before.Goals as goal

pub returns-in_err-ty : goal.returns-in_err-ty
returns-in_err-ty c =
    let p = err_from_is_err_and c.from_residual.result c.from_residual.ensures.1 in
    rw (p.1, p.2) (on_syntax_more _ (before_none {R = IsType}) c.in_err-ty.ensures.none)

pub returns-in-Ok : goal.returns-in-Ok
returns-in-Ok c = record {
  found = before c.in_ok-ty.ensures.tree c.in-Ok.ensures.found;
  shorter = omega (arith, c.in_ok-ty.ensures.shorter, c.in-Ok.ensures.shorter);
}

pub returns-in-Err : goal.returns-in-Err
returns-in-Err c = on_syntax_more _ (symbol_none one_type c.in_ok-ty.ensures.tree) c.in-Err.ensures
