use Rattle.std.proofs.Common.{arith}
use Rattle.std.proofs.lemmas.Result.{err_from_is_err_and}
use Rattle.ac_syntax.proofs.OnStop.{on_syntax_more, refused}
use Rattle.ac_parser.proofs.VersionSteps.{no_equals, no_version_at, version_at_equals}
use Rattle.ac_parser.proofs.versions.version.Goals as goal

pub returns-in_default : goal.returns-in_default
returns-in_default c = refused _ _ c.refused_at.ensures (no_equals _ _ _ c.in_ok-version.ensures.found c.in_default.ensures.found)

pub returns-in_err-version : goal.returns-in_err-version
returns-in_err-version c =
    let p = err_from_is_err_and c.from_residual.result c.from_residual.ensures.1 in
    rw (p.1, p.2) (on_syntax_more _ (no_version_at _) c.in_err-version.ensures)

pub returns : goal.returns
returns c = record {
  found = version_at_equals _ _ _ c.in_ok-version.ensures.found _ c.in-Some.ensures.found;
  shorter = omega (arith, c.in_ok-version.ensures.within, c.in-Some.ensures.shorter);
}
