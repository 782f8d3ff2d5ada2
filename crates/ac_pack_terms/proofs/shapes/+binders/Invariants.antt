use Rattle.std.proofs.Common.{◌≡◌, ◌+◌, drop, map}
use Rattle.ac_terms.specs.Terms.{patterns}
use Rattle.ac_terms.specs.Read.{pattern_of}
use Rattle.ac_meaning.specs.Substitution.{all_binders}
use Rattle.ac_pack_terms.proofs.shapes.+binders.Given as goal

abbrev pub invariant-all_binders-loop-pat : goal.invariant-all_binders-loop-pat
invariant-all_binders-loop-pat l = l.count + all_binders (patterns (map pattern_of (drop l.pat-index l.pats))) ≡ all_binders (patterns (map pattern_of l.pats))
