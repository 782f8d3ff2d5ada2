use Rattle.std.proofs.Common.{◌≡◌, ◌∙◌, ap, sym, true, false, subst, arith, rules, length, None}
use Rattle.std.proofs.lemmas.Grind.{common_steps}
use Rattle.ac_syntax.specs.declared.surface.SExprKind.TheViews.{the_lemmas}
use Rattle.ac_syntax.specs.declared.surface.SExprKind.TheVariants as variants
use Rattle.std.specs.Prelude.{IfOk}
use Rattle.ac_terms.specs.Terms.{Expr}
use Rattle.ac_resolve_scopes.specs.Written.{primitive_at, term_in}
use Rattle.ac_resolve_scopes.specs.Searches.{found}
use Rattle.ac_syntax.proofs.TreeLaws.{tree_of-Of}
use Rattle.ac_syntax.specs.ReadTrees.{tree_of}
use Rattle.ac_resolve_terms.specs.inner.Crowd.{crowd}
use Rattle.ac_resolve_terms.proofs.Within.{found_in_arm, item_within, item_arm_within}
use Rattle.ac_terms.specs.Read.{expr_of, arm_of}
use Rattle.ac_terms.proofs.TermForms.{expr_of-Bool, expr_of-Unit}
use Rattle.ac_types.proofs.Loops.{built}
use Rattle.ac_resolve_names.specs.Fronts.{scope_of}
use Rattle.ac_resolve_terms.proofs.Made.{term_made, all_terms, arm_made, all_arms}
use Rattle.ac_resolve_terms.proofs.Joined.{shown, flag_ok, chosen, bound, marshalled, applied_to}
use Rattle.ac_resolve_terms.proofs.term.+term.Goals as goal

pub all-term_in-requires : goal.all-term_in-requires
all-term_in-requires t c =
    let p : found crowd (scope_of c.args.scope.now) (tree_of c.tree-item.result) ≡ None = item_within (scope_of c.args.scope.now) c.args.parts.now c.loop-tree.tree-index _ c.loop-tree-test.true c.tree-item.is c.requires in
    search (rules, the_lemmas, common_steps)

pub arms-arm-requires : goal.arms-arm-requires
arms-arm-requires t c =
    let p : found_in_arm (scope_of c.args.scope.now) c.case-item.result ≡ None = item_arm_within (scope_of c.args.scope.now) c.args.cases.now c.loop-case.case-index _ c.loop-case-test.true c.case-item.is c.requires in
    search (rules, the_lemmas, common_steps)

pub all-loop-tree-preserved : goal.all-loop-tree-preserved
all-loop-tree-preserved t c =
    built expr_of (term_made (scope_of c.args.scope.now)) _ _ _ _ _ _ c.loop-tree.invariant c.loop-tree-test.true c.tree-item.is c.in_ok-push.ensures.ok c.in_ok-made.ensures

pub all-returns : goal.all-returns
all-returns t c = let e : c.loop-tree.tree-index ≡ length c.args.parts.now = omega arith in all_terms (scope_of c.args.scope.now) _ _ _ e c.loop-tree.invariant

pub arms-loop-case-preserved : goal.arms-loop-case-preserved
arms-loop-case-preserved t c =
    built arm_of (arm_made (scope_of c.args.scope.now)) _ _ _ _ _ _ c.loop-case.invariant c.loop-case-test.true c.case-item.is c.in_ok-push.ensures.ok c.in_ok-made.ensures

pub arms-returns : goal.arms-returns
arms-returns t c = let e : c.loop-case.case-index ≡ length c.args.cases.now = omega arith in all_arms (scope_of c.args.scope.now) _ _ _ e c.loop-case.invariant

pub term_in-returns-in-Of : goal.term_in-returns-in-Of
term_in-returns-in-Of t c =
    subst (λ (e : Expr). IfOk c.dotted_value.result (λ t. expr_of t ≡ e)) (sym (ap (term_in (scope_of c.args.scope.now)) (tree_of-Of c.args.tree.now c.in-Of.owner c.in-Of.name c.in-Of.is))) c.dotted_value.ensures

pub term_in-returns-in-Bool : goal.term_in-returns-in-Bool
term_in-returns-in-Bool t c = expr_of-Bool _ ∙ sym (ap (term_in (scope_of c.args.scope.now)) (shown c.args.tree.now _ _ c.in-Bool.is (variants.outs-Bool _)))

pub term_in-returns-in-Unit : goal.term_in-returns-in-Unit
term_in-returns-in-Unit t c = expr_of-Unit ∙ sym (ap (term_in (scope_of c.args.scope.now)) (shown c.args.tree.now _ _ c.in-Unit.is variants.outs-Unit))

pub term_in-returns-in-Var : goal.term_in-returns-in-Var
term_in-returns-in-Var t c = c.plain_value.ensures ∙ sym (ap (term_in (scope_of c.args.scope.now)) (shown c.args.tree.now _ _ c.in-Var.is (variants.outs-Var _)))

pub term_in-returns-in-App : goal.term_in-returns-in-App
term_in-returns-in-App t c = applied_to _ _ _ _ _ _ _ _ (ap (term_in (scope_of c.args.scope.now)) (shown c.args.tree.now _ _ c.in-App.is (variants.outs-App _ _))) (c.primitive_at.ensures ∙ ap (λ f. primitive_at (tree_of f)) c.deref.ensures) c.boxed-in-App.ensures c.boxed-in-App-2.ensures c.applied.ensures

pub term_in-returns-in-Let : goal.term_in-returns-in-Let
term_in-returns-in-Let t c = bound _ _ _ _ _ _ _ _ (ap (term_in (scope_of c.args.scope.now)) (shown c.args.tree.now _ _ c.in-Let.is (variants.outs-Let _ _ _ _))) c.ty-in-Let.ensures c.boxed-in-Let.ensures c.under-in-Let.ensures c.let_in.ensures

pub term_in-returns-in-If : goal.term_in-returns-in-If
term_in-returns-in-If t c = chosen _ _ _ _ _ _ _ _ (ap (term_in (scope_of c.args.scope.now)) (shown c.args.tree.now _ _ c.in-If.is (variants.outs-If _ _ _))) c.boxed-in-If.ensures c.boxed-in-If-2.ensures c.boxed-in-If-3.ensures c.choice.ensures

pub term_in-returns-in-And : goal.term_in-returns-in-And
term_in-returns-in-And t c = chosen _ _ _ _ _ _ _ _ (ap (term_in (scope_of c.args.scope.now)) (shown c.args.tree.now _ _ c.in-And.is (variants.outs-And _ _))) c.boxed-in-And.ensures c.boxed-in-And-2.ensures (flag_ok c.new.result false c.new.ensures) c.choice-in-And.ensures

pub term_in-returns-in-Or : goal.term_in-returns-in-Or
term_in-returns-in-Or t c = chosen _ _ _ _ _ _ _ _ (ap (term_in (scope_of c.args.scope.now)) (shown c.args.tree.now _ _ c.in-Or.is (variants.outs-Or _ _))) c.boxed-in-Or.ensures (flag_ok c.new-in-Or.result true c.new-in-Or.ensures) c.boxed-in-Or-2.ensures c.choice-in-Or.ensures

pub term_in-returns-in-Marshal : goal.term_in-returns-in-Marshal
term_in-returns-in-Marshal t c = marshalled _ _ _ _ _ _ _ _ (ap (term_in (scope_of c.args.scope.now)) (shown c.args.tree.now _ _ c.in-Marshal.is (variants.outs-Marshal _ _ _))) c.ty-in-Marshal.ensures c.boxed-in-Marshal.ensures c.boxed-in-Marshal-2.ensures c.marshal.ensures
