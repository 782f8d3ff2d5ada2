use Rattle.std.proofs.Common.{arith}
use Rattle.std.proofs.lemmas.Result.{err_from_is_err_and}
use Rattle.ac_syntax.proofs.OnStop.{on_syntax_more, refused}
use Rattle.ac_parser.proofs.ImportSteps.{no_head, no_version, no_demand, no_places, import_read}
use Rattle.ac_parser.proofs.imports.import.Goals as goal

pub returns-in_err-name : goal.returns-in_err-name
returns-in_err-name c =
    let p = err_from_is_err_and c.from_residual.result c.from_residual.ensures.1 in
    rw (p.1, p.2) (on_syntax_more _ (no_head _ _) c.in_err-name.ensures)

pub returns-in_default : goal.returns-in_default
returns-in_default c = refused _ _ c.refused_at.ensures (no_version _ _ _ _ c.in_ok-name.ensures.found c.in_default.ensures.found)

pub returns-in_err-wants : goal.returns-in_err-wants
returns-in_err-wants c =
    let p = err_from_is_err_and c.from_residual-in_err-wants.result c.from_residual-in_err-wants.ensures.1 in
    rw (p.1, p.2) (on_syntax_more _ (no_demand _ _ _ _ c.in_ok-name.ensures.found _ c.in-Some.ensures.found) c.in_err-wants.ensures)

pub returns-in_err-by : goal.returns-in_err-by
returns-in_err-by c =
    let p = err_from_is_err_and c.from_residual-in_err-by.result c.from_residual-in_err-by.ensures.1 in
    rw (p.1, p.2) (on_syntax_more _ (no_places _ _ _ _ c.in_ok-name.ensures.found _ c.in-Some.ensures.found _ _ c.in_ok-wants.ensures.found) c.in_err-by.ensures)

pub returns : goal.returns
returns c = record {
  found = import_read _ _ _ _ c.in_ok-name.ensures.found _ c.in-Some.ensures.found _ _ c.in_ok-wants.ensures.found _ _ c.in_ok-by.ensures.found;
  shorter = omega (arith, c.in_ok-name.ensures.shorter, c.in-Some.ensures.shorter, c.in_ok-wants.ensures.shorter, c.in_ok-by.ensures.shorter);
}
