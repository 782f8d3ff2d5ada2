use Rattle.std.proofs.Common.{arith}
use Rattle.std.proofs.lemmas.Result.{err_from_is_err_and}
use Rattle.ac_syntax.proofs.OnStop.{on_syntax_more}
use Rattle.ac_parser.proofs.ImportSteps.{demand_name, no_demand_name, no_constraint, no_like_there, demand_version}
use Rattle.ac_parser.proofs.imports.demand.Goals as goal

pub returns-in_err-name : goal.returns-in_err-name
returns-in_err-name c =
    let p = err_from_is_err_and c.from_residual.result c.from_residual.ensures.1 in
    rw (p.1, p.2) (on_syntax_more _ (no_demand_name _ _ c.in-Some.ensures.found) c.in_err-name.ensures)

pub returns-in-Some : goal.returns-in-Some
returns-in-Some c = record {
  found = demand_name _ _ c.in-Some.ensures.found _ _ c.in_ok-name.ensures.found;
  shorter = omega (arith, c.in-Some.ensures.shorter, c.in_ok-name.ensures.shorter);
}

pub returns-in_err-constraint : goal.returns-in_err-constraint
returns-in_err-constraint c =
    let p = err_from_is_err_and c.from_residual-in_err-constraint.result c.from_residual-in_err-constraint.ensures.1 in
    rw (p.1, p.2) (on_syntax_more _ (no_constraint _ c.in_default.ensures.found) c.in_err-constraint.ensures)

pub returns-in_err-like : goal.returns-in_err-like
returns-in_err-like c =
    let p = err_from_is_err_and c.from_residual-in_err-like.result c.from_residual-in_err-like.ensures.1 in
    rw (p.1, p.2) (on_syntax_more _ (no_like_there _ c.in_default.ensures.found _ _ c.in_ok-constraint.ensures.found) c.in_err-like.ensures)

pub returns : goal.returns
returns c = record {
  found = demand_version _ c.in_default.ensures.found _ _ c.in_ok-constraint.ensures.found _ _ c.in_ok-like.ensures.found;
  shorter = omega (arith, c.in_ok-constraint.ensures.within, c.in_ok-like.ensures.shorter);
}
