use Rattle.std.proofs.Common.{arith}
use Rattle.std.proofs.lemmas.Result.{err_from_is_err_and}
use Rattle.ac_syntax.proofs.OnStop.{on_syntax_more, refused}
use Rattle.ac_parser.proofs.ImportSteps.{no_likespec, no_like_word, no_abbrevs_there, no_by, likespec_read}
use Rattle.ac_parser.proofs.imports.likespec.Goals as goal

pub returns-in-Some : goal.returns-in-Some
returns-in-Some c = record {
  found = no_likespec _ _ c.in-Some.ensures.found;
  shorter = c.in-Some.ensures.shorter;
}

pub returns-in_default-after : goal.returns-in_default-after
returns-in_default-after c = refused _ _ c.refused_at.ensures (no_like_word _ c.in_default.ensures.found c.in_default-after.ensures.found)

pub returns-in_err-found : goal.returns-in_err-found
returns-in_err-found c =
    let p = err_from_is_err_and c.from_residual.result c.from_residual.ensures.1 in
    rw (p.1, p.2) (on_syntax_more _ (no_abbrevs_there _ _ c.in-Some-after.ensures.found) c.in_err-found.ensures)

pub returns-in_default-after-2 : goal.returns-in_default-after-2
returns-in_default-after-2 c =
    refused _ _ c.refused_at-in_default-after-2.ensures (no_by _ _ c.in-Some-after.ensures.found _ _ c.in_ok-found.ensures.found c.in_default-after-2.ensures.found)

pub returns : goal.returns
returns c = record {
  found = likespec_read _ _ c.in-Some-after.ensures.found _ _ c.in_ok-found.ensures.found _ c.in-Some-after-2.ensures.found;
  shorter = omega (arith, c.in-Some-after.ensures.shorter, c.in_ok-found.ensures.shorter, c.in-Some-after-2.ensures.shorter);
}
