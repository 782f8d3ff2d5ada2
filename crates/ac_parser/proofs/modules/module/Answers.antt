use Rattle.std.proofs.Common.{arith}
use Rattle.std.proofs.lemmas.Result.{err_from_is_err_and}
use Rattle.ac_syntax.proofs.OnStop.{on_syntax_more}
use Rattle.ac_parser.proofs.ModuleSteps.{no_head, no_version, no_fields_there, module_read}
use Rattle.ac_parser.proofs.modules.module.Goals as goal

pub returns : goal.returns
returns c = record {
  found = module_read _ _ _ _ c.in_ok-name.ensures.found _ _ c.in_ok-version.ensures.found _ _ c.in_ok-fields.ensures.found;
  shorter = omega (arith, c.in_ok-name.ensures.shorter, c.in_ok-version.ensures.shorter, c.in_ok-fields.ensures.shorter);
}

pub returns-in_err-name : goal.returns-in_err-name
returns-in_err-name c =
    let p = err_from_is_err_and c.from_residual.result c.from_residual.ensures.1 in
    rw (p.1, p.2) (on_syntax_more _ (no_head _ _) c.in_err-name.ensures)

pub returns-in_err-version : goal.returns-in_err-version
returns-in_err-version c =
    let p = err_from_is_err_and c.from_residual-in_err-version.result c.from_residual-in_err-version.ensures.1 in
    rw (p.1, p.2) (on_syntax_more _ (no_version _ _ _ _ c.in_ok-name.ensures.found) c.in_err-version.ensures)

pub returns-in_err-fields : goal.returns-in_err-fields
returns-in_err-fields c =
    let p = err_from_is_err_and c.from_residual-in_err-fields.result c.from_residual-in_err-fields.ensures.1 in
    rw (p.1, p.2) (on_syntax_more _ (no_fields_there _ _ _ _ c.in_ok-name.ensures.found _ _ c.in_ok-version.ensures.found) c.in_err-fields.ensures)
