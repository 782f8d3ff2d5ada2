use Rattle.std.proofs.Common.{◌≡◌, map, take}
use Rattle.ac_terms.specs.Read.{expr_of, arm_of, value_of}
use Rattle.ac_terms.proofs.CopyLaws.{term_made, arm_made, value_made}
use Rattle.ac_terms.proofs.renumber.Copier.+renumber.Given as goal

abbrev pub invariant-terms-loop-term : goal.invariant-terms-loop-term
invariant-terms-loop-term g l = map expr_of l.found ≡ map (term_made (g.N.Numbering.stands_for l.self.by)) (take l.term-index l.all)

abbrev pub invariant-arms-loop-case : goal.invariant-arms-loop-case
invariant-arms-loop-case g l = map arm_of l.found ≡ map (arm_made (g.N.Numbering.stands_for l.self.by)) (take l.case-index l.cases)

abbrev pub invariant-values-loop-value : goal.invariant-values-loop-value
invariant-values-loop-value g l = map value_of l.found ≡ map (value_made (g.N.Numbering.stands_for l.self.by)) (take l.value-index l.all)
