use Rattle.std.proofs.Common.{arith}
use Rattle.std.proofs.lemmas.Result.{err_from_is_err_and}
use Rattle.ac_syntax.specs.ReadTrees.{name_of}
use Rattle.ac_syntax.proofs.OnStop.{on_syntax_more}
use Rattle.ac_parser_patterns.proofs.Readers.{then, first_none, head_no_argument, head_no_result}
use Rattle.ac_parser_patterns.proofs.binders.function_head.Goals as goal

pub returns-in_err-name : goal.returns-in_err-name
returns-in_err-name c =
    let p = err_from_is_err_and c.from_residual.result c.from_residual.ensures.1 in
    rw (p.1, p.2) (on_syntax_more _ first_none c.in_err-name.ensures)

pub returns-in_err-argument : goal.returns-in_err-argument
returns-in_err-argument c =
    let p = err_from_is_err_and c.from_residual-in_err-argument.result c.from_residual-in_err-argument.ensures.1 in
    rw (p.1, p.2) (on_syntax_more _ (head_no_argument (name_of c.in_ok-name.name) _ _ c.in_ok-name.ensures.found) c.in_err-argument.ensures)

pub returns-in_err-result : goal.returns-in_err-result
returns-in_err-result c =
    let p = err_from_is_err_and c.from_residual-in_err-result.result c.from_residual-in_err-result.ensures.1 in
    rw (p.1, p.2) (on_syntax_more _ (head_no_result (name_of c.in_ok-name.name) _ _ _ _ c.in_ok-name.ensures.found c.in_ok-argument.ensures.found) c.in_err-result.ensures)

pub returns : goal.returns
returns c = record {
  found = then _ c.in_ok-name.ensures.found (then _ c.in_ok-argument.ensures.found c.in_ok-result.ensures.found);
  shorter = omega (arith, c.in_ok-name.ensures.shorter, c.in_ok-argument.ensures.shorter, c.in_ok-result.ensures.shorter);
}
