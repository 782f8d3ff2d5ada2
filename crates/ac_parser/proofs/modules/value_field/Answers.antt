use Rattle.std.proofs.Common.{arith}
use Rattle.std.proofs.lemmas.Result.{err_from_is_err_and}
use Rattle.ac_syntax.specs.ReadTrees.{name_of}
use Rattle.ac_syntax.proofs.OnStop.{on_syntax_more, refused}
use Rattle.ac_parser.proofs.ModuleSteps.{unnamed_field, no_colon, untyped_field, no_body, no_expr, value}
use Rattle.ac_parser.proofs.modules.value_field.Goals as goal

pub returns-in_default : goal.returns-in_default
returns-in_default c = refused _ _ c.refused_at.ensures (unnamed_field _ (rw c.in_default.is at c.in_ok-name.ensures.found))

pub returns-in_default-after : goal.returns-in_default-after
returns-in_default-after c =
    refused _ _ c.refused_at-in_default-after.ensures (no_colon _ (name_of c.in-Some.name) _ (rw c.in-Some.is at c.in_ok-name.ensures.found) c.in_default-after.ensures.found)

pub returns-in_err-ty : goal.returns-in_err-ty
returns-in_err-ty c =
    let p = err_from_is_err_and c.from_residual-in_err-ty.result c.from_residual-in_err-ty.ensures.1 in
    rw (p.1, p.2) (on_syntax_more _ (untyped_field _ (name_of c.in-Some.name) _ (rw c.in-Some.is at c.in_ok-name.ensures.found) _ c.in-Some-after.ensures.found) c.in_err-ty.ensures.none)

pub returns-in_default-after-2 : goal.returns-in_default-after-2
returns-in_default-after-2 c =
    refused _ _ c.refused_at-in_default-after-2.ensures
    (no_body _ (name_of c.in-Some.name) _ (rw c.in-Some.is at c.in_ok-name.ensures.found) _ c.in-Some-after.ensures.found _ _ c.in_ok-ty.ensures.tree c.in_default-after-2.ensures.found)

pub returns-in_err-body : goal.returns-in_err-body
returns-in_err-body c =
    let p = err_from_is_err_and c.from_residual-in_err-body.result c.from_residual-in_err-body.ensures.1 in
    rw (p.1, p.2) (on_syntax_more _ (no_expr _ (name_of c.in-Some.name) _ (rw c.in-Some.is at c.in_ok-name.ensures.found) _ c.in-Some-after.ensures.found _ _ c.in_ok-ty.ensures.tree _ c.in-Some-after-2.ensures.found) c.in_err-body.ensures)

pub returns : goal.returns
returns c = record {
  found = value _ (name_of c.in-Some.name) _ (rw c.in-Some.is at c.in_ok-name.ensures.found) _ c.in-Some-after.ensures.found _ _ c.in_ok-ty.ensures.tree _ c.in-Some-after-2.ensures.found _ _ c.in_ok-body.ensures.found;
  shorter = omega (arith, rw c.in-Some.is at c.in_ok-name.ensures.shorter, c.in-Some-after.ensures.shorter, c.in_ok-ty.ensures.shorter, c.in-Some-after-2.ensures.shorter, c.in_ok-body.ensures.shorter);
}
