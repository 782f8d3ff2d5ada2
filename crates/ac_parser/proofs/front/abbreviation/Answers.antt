use Rattle.std.proofs.Common.{arith}
use Rattle.std.proofs.lemmas.Result.{err_from_is_err_and}
use Rattle.ac_syntax.specs.ReadTrees.{name_of}
use Rattle.ac_syntax.proofs.OnStop.{on_syntax_more, refused}
use Rattle.ac_parser.proofs.Fronts.{no_equals, untyped, abbreviated}
use Rattle.ac_parser.proofs.front.abbreviation.Goals as goal

pub returns-in_default-after : goal.returns-in_default-after
returns-in_default-after c =
    refused _ _ c.refused_at-in_default-after.ensures (no_equals _ (name_of c.in-Some.name) _ (rw c.in-Some.is at c.in_ok-name.ensures.found) c.in_default-after.ensures.found)

pub returns-in_err-ty : goal.returns-in_err-ty
returns-in_err-ty c =
    let p = err_from_is_err_and c.from_residual-in_err-ty.result c.from_residual-in_err-ty.ensures.1 in
    rw (p.1, p.2) (on_syntax_more _ (untyped _ (name_of c.in-Some.name) _ (rw c.in-Some.is at c.in_ok-name.ensures.found) _ c.in-Some-after.ensures.found) c.in_err-ty.ensures.none)

pub returns : goal.returns
returns c = record {
  found = abbreviated _ (name_of c.in-Some.name) _ (rw c.in-Some.is at c.in_ok-name.ensures.found) _ c.in-Some-after.ensures.found _ _ c.in_ok-ty.ensures.tree;
  shorter = omega (arith, rw c.in-Some.is at c.in_ok-name.ensures.shorter, c.in-Some-after.ensures.shorter, c.in_ok-ty.ensures.shorter);
}
