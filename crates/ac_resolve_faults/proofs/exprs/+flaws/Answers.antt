use Rattle.std.proofs.Common.{◌≡◌, ◌∙◌, ap, sym, refl, arith, length, map, List}
use Rattle.ac_types.specs.Types.{Bytes}
use Rattle.ac_syntax.specs.declared.surface.SExpr.{SExpr}
use Rattle.ac_syntax.specs.declared.surface.SArm.{SArm}
use Rattle.ac_syntax.specs.Trees.{trees, arm_trees}
use Rattle.ac_syntax.specs.ReadTrees.{tree_of, arm_tree_of}
use Rattle.ac_resolve_signatures.specs.declared.flaws.Flaws.{Flaws}
use Rattle.ac_resolve_signatures.specs.KnownScopes.{KnownScope}
use Rattle.ac_resolve_faults.specs.inner.ExprFlaws.{flaws, flaws_of_all, arm_flaws, flaws_of_arms}
use Rattle.ac_resolve_signatures.specs.Reads.{known_in}
use Rattle.ac_resolve_faults.specs.inner.Variables.{variables_in}
use Rattle.ac_resolve_signatures.proofs.Leasts.{both_joined, next_part, last_part}
use Rattle.ac_syntax.proofs.TreeLaws.{tree_of-Of}
use Rattle.ac_resolve_faults.proofs.exprs.+flaws.Goals as goal

abbrev of_all : KnownScope → List Bytes → List SExpr → Flaws
of_all K names es = flaws_of_all K names (trees (map tree_of es))

abbrev of_arms : KnownScope → List Bytes → List SArm → Flaws
of_arms K names cases = flaws_of_arms K names (arm_trees (map arm_tree_of cases))

pub flaws-returns-in-Of : goal.flaws-returns-in-Of
flaws-returns-in-Of t c =
    c.join-in-Of.ensures ∙ both_joined _ _ _ _ c.dotted_flaws.ensures c.leaf-in-Of.ensures ∙ ap (flaws (known_in c.args.scan.now) (variables_in c.args.scope.now)) (sym (tree_of-Of c.args.tree.now c.in-Of.owner c.in-Of.name c.in-Of.is))

pub all-loop-tree-preserved : goal.all-loop-tree-preserved
all-loop-tree-preserved t c =
    let K = known_in c.args.scan.now in
    let names = variables_in c.args.scope.now in
    next_part (of_all K names) (λ e. flaws K names (tree_of e)) (λ e es. refl) _ c.loop-tree.found _ _ _ _ _ c.loop-tree-test.true c.tree-item.is c.loop-tree.invariant c.in_ok-here.ensures c.join-found.ensures

pub all-returns : goal.all-returns
all-returns t c = let e : c.loop-tree.tree-index ≡ length c.args.parts.now = omega arith in last_part (of_all (known_in c.args.scan.now) (variables_in c.args.scope.now)) _ c.loop-tree.found _ _ refl e c.loop-tree.invariant

pub arms-loop-case-preserved : goal.arms-loop-case-preserved
arms-loop-case-preserved t c =
    let K = known_in c.args.scan.now in
    let names = variables_in c.args.scope.now in
    next_part (of_arms K names) (λ a. arm_flaws K names (arm_tree_of a)) (λ a cases. refl) _ c.loop-case.found _ _ _ _ _ c.loop-case-test.true c.case-item.is c.loop-case.invariant c.in_ok-here.ensures c.join-found.ensures

pub arms-returns : goal.arms-returns
arms-returns t c = let e : c.loop-case.case-index ≡ length c.args.cases.now = omega arith in last_part (of_arms (known_in c.args.scan.now) (variables_in c.args.scope.now)) _ c.loop-case.found _ _ refl e c.loop-case.invariant
