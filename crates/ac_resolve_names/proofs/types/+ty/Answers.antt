use Rattle.std.proofs.Common.{◌≡◌, ap, sym, subst, arith, length}
use Rattle.std.specs.Prelude.{IfOk}
use Rattle.ac_types.specs.Types.{Typ}
use Rattle.ac_resolve_scopes.specs.Written.{type_in}
use Rattle.ac_types.specs.ReadTypes.{typ_of}
use Rattle.ac_types.proofs.Loops.{built}
use Rattle.ac_resolve_names.specs.Fronts.{scope_of}
use Rattle.ac_resolve_names.proofs.TypeLists.{type_made, all_types, written_of}
use Rattle.ac_resolve_names.proofs.types.+ty.Goals as goal

pub tys-loop-tree-preserved : goal.tys-loop-tree-preserved
tys-loop-tree-preserved t c =
    built typ_of (type_made (scope_of c.args.scope.now)) _ _ _ _ _ _ c.loop-tree.invariant c.loop-tree-test.true c.tree-item.is c.in_ok-push.ensures.ok c.in_ok-made.ensures

pub tys-returns : goal.tys-returns
tys-returns t c = let e : c.loop-tree.tree-index ≡ length c.args.trees.now = omega arith in all_types (scope_of c.args.scope.now) _ _ _ e c.loop-tree.invariant

pub ty-returns-in-Of : goal.ty-returns-in-Of
ty-returns-in-Of t c =
    subst (λ (T : Typ). IfOk c.dotted_type.result (λ r. typ_of r ≡ T)) (sym (ap (type_in (scope_of c.args.scope.now)) (written_of c.args.tree.now c.in-Of.m c.in-Of.t c.in-Of.is))) c.dotted_type.ensures
