use Rattle.std.proofs.Common.{◌≡◌, ◌++◌, drop, map}
use Rattle.ac_terms.specs.Read.{home_of, expr_of, arm_of, value_of}
use Rattle.ac_terms.specs.Terms.{exprs, arms, pvalues}
use Rattle.ac_code.specs.Contexts.{context_of}
use Rattle.ac_generate.specs.inner.Drafts.{draft_of, address, wrote_all, wrote_seq, wrote_rest, wrote_arms, ends, wrote_values}
use Rattle.ac_generate.proofs.writer.Writer.+term.Given as goal

abbrev pub invariant-all-loop-term : goal.invariant-all-loop-term
invariant-all-loop-term l = wrote_all (home_of l.home) (context_of l.scope) (exprs (map expr_of (drop l.term-index l.terms))) (draft_of l.self) ≡ wrote_all (home_of l.home) (context_of l.scope) (exprs (map expr_of l.terms)) (draft_of l.initial.self)

abbrev pub invariant-parts-loop-part : goal.invariant-parts-loop-part
invariant-parts-loop-part l = wrote_rest (home_of l.home) (context_of l.scope) (exprs (map expr_of (drop l.part-index l.part-items))) (draft_of l.self) ≡ wrote_seq (home_of l.home) (context_of l.scope) (exprs (map expr_of l.parts)) (draft_of l.fn.self)

abbrev pub invariant-arms-loop-case : goal.invariant-arms-loop-case
invariant-arms-loop-case l = record {
  written : wrote_arms (home_of l.home) (context_of l.scope) (arms (map arm_of (drop l.case-index l.cases))) (draft_of l.self) ≡ wrote_arms (home_of l.home) (context_of l.scope) (arms (map arm_of l.cases)) (draft_of l.initial.self);
  addresses : l.ends.items ++ ends (arms (map arm_of (drop l.case-index l.cases))) (address (draft_of l.self)) ≡ ends (arms (map arm_of l.cases)) (address (draft_of l.initial.self));
}

abbrev pub invariant-values-loop-value : goal.invariant-values-loop-value
invariant-values-loop-value l = wrote_values (pvalues (map value_of (drop l.value-index l.values))) (draft_of l.self) ≡ wrote_values (pvalues (map value_of l.values)) (draft_of l.initial.self)
