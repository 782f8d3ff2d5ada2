use Rattle.std.proofs.Common.{◌≡◌, ap, arith, length}
use Rattle.ac_terms.specs.Read.{expr_of, arm_of, value_of}
use Rattle.ac_types.proofs.Loops.{built}
use Rattle.ac_terms.proofs.CopyLaws.{term_made, all_terms, arm_made, all_arms, value_made, all_values}
use Rattle.ac_terms.proofs.renumber.Copier.+renumber.Goals as goal

pub terms-loop-term-preserved : goal.terms-loop-term-preserved
terms-loop-term-preserved g t c =
    built expr_of (term_made (g.N.Numbering.stands_for c.args.self.now.by)) _ _ _ _ _ _ c.loop-term.invariant (rw c.as_slice-term-items.ensures at c.loop-term-test.true) (rw c.as_slice-term-items.ensures at c.term-item.is) c.in_ok-push.ensures.ok c.in_ok-made.ensures

pub terms-returns : goal.terms-returns
terms-returns g t c = let e : c.loop-term.term-index ≡ length c.args.all.now = omega (arith, ap length c.as_slice-term-items.ensures) in all_terms (g.N.Numbering.stands_for c.args.self.now.by) _ _ _ e c.loop-term.invariant

pub arms-loop-case-preserved : goal.arms-loop-case-preserved
arms-loop-case-preserved g t c =
    built arm_of (arm_made (g.N.Numbering.stands_for c.args.self.now.by)) _ _ _ _ _ _ c.loop-case.invariant (rw c.as_slice-case-items.ensures at c.loop-case-test.true) (rw c.as_slice-case-items.ensures at c.case-item.is) c.in_ok-push.ensures.ok c.in_ok-made.ensures

pub arms-returns : goal.arms-returns
arms-returns g t c = let e : c.loop-case.case-index ≡ length c.args.cases.now = omega (arith, ap length c.as_slice-case-items.ensures) in all_arms (g.N.Numbering.stands_for c.args.self.now.by) _ _ _ e c.loop-case.invariant

pub values-loop-value-preserved : goal.values-loop-value-preserved
values-loop-value-preserved g t c =
    built value_of (value_made (g.N.Numbering.stands_for c.args.self.now.by)) _ _ _ _ _ _ c.loop-value.invariant (rw c.as_slice-value-items.ensures at c.loop-value-test.true) (rw c.as_slice-value-items.ensures at c.value-item.is) c.in_ok-push.ensures.ok c.in_ok-made.ensures

pub values-returns : goal.values-returns
values-returns g t c = let e : c.loop-value.value-index ≡ length c.args.all.now = omega (arith, ap length c.as_slice-value-items.ensures) in all_values (g.N.Numbering.stands_for c.args.self.now.by) _ _ _ e c.loop-value.invariant
