use Rattle.std.proofs.Common.{refl, arith}
use Rattle.std.proofs.lemmas.Result.{err_from_is_err_and}
use Rattle.ac_syntax.proofs.OnStop.{on_syntax_more}
use Rattle.ac_syntax.specs.declared.sign.Symbol.TheVariants as symbol
use Rattle.ac_parser.proofs.Lists.{read_at}
use Rattle.ac_parser.proofs.ProgramSteps.{begins_with, no_module, no_import, no_mark_there, no_def_word}
use Rattle.ac_parser.proofs.defs.next_def.Goals as goal

pub returns-in_err-found : goal.returns-in_err-found
returns-in_err-found c =
    let p = err_from_is_err_and c.from_residual.result c.from_residual.ensures.1 in
    rw (p.1, p.2) (on_syntax_more _ (no_module _ _ _ (begins_with symbol.Module _ _ _ c.in-Some.ensures.found c.here-at.ensures)) c.in_err-found.ensures)

pub returns-in-Some : goal.returns-in-Some
returns-in-Some c = record {
  found = read_at (begins_with symbol.Module _ _ _ c.in-Some.ensures.found c.here-at.ensures) c.in_ok-found.ensures.found;
  shorter = omega (arith, c.in-Some.ensures.shorter, c.in_ok-found.ensures.shorter);
}

pub returns-in_err-found-2 : goal.returns-in_err-found-2
returns-in_err-found-2 c =
    let p = err_from_is_err_and c.from_residual-in_err-found-2.result c.from_residual-in_err-found-2.ensures.1 in
    rw (p.1, p.2) (on_syntax_more _ (no_import _ _ _ (begins_with symbol.Import _ _ _ c.in-Some-after.ensures.found c.here-at.ensures)) c.in_err-found-2.ensures)

pub returns-in_default-after-2 : goal.returns-in_default-after-2
returns-in_default-after-2 c = (refl, no_def_word _ c.in_default.ensures.found c.in_default-after.ensures.found c.in_default-after-2.ensures.found)

pub returns-in_err-found-3 : goal.returns-in_err-found-3
returns-in_err-found-3 c =
    let p = err_from_is_err_and c.from_residual-in_err-found-3.result c.from_residual-in_err-found-3.ensures.1 in
    rw (p.1, p.2) (on_syntax_more _ (no_mark_there _ _ _ (begins_with symbol.Mark _ _ _ c.in-Some-after-2.ensures.found c.here-at.ensures)) c.in_err-found-3.ensures)

pub returns-in-Some-after : goal.returns-in-Some-after
returns-in-Some-after c = record {
  found = read_at (begins_with symbol.Import _ _ _ c.in-Some-after.ensures.found c.here-at.ensures) c.in_ok-found-2.ensures.found;
  shorter = omega (arith, c.in-Some-after.ensures.shorter, c.in_ok-found-2.ensures.shorter);
}

pub returns : goal.returns
returns c = record {
  found = read_at (begins_with symbol.Mark _ _ _ c.in-Some-after-2.ensures.found c.here-at.ensures) c.in_ok-found-3.ensures.found;
  shorter = omega (arith, c.in-Some-after-2.ensures.shorter, c.in_ok-found-3.ensures.shorter);
}
