use Rattle.std.proofs.Common.{◌≡◌, drop, map}
use Rattle.ac_terms.specs.Terms.{patterns}
use Rattle.ac_terms.specs.Parts.{all_pattern_types}
use Rattle.ac_terms.specs.Read.{pattern_of}
use Rattle.ac_closure.specs.inner.Chosen.{with_types}
use Rattle.ac_closure.specs.inner.Names.{entry_named}
use Rattle.ac_closure.proofs.patterns.+pat.Given as goal

abbrev pub invariant-add_patterns-loop-pat : goal.invariant-add_patterns-loop-pat
invariant-add_patterns-loop-pat l =
    let find = entry_named l.names in
    with_types find l.set (all_pattern_types (patterns (map pattern_of (drop l.pat-index l.pats)))) ≡ with_types find l.initial.set (all_pattern_types (patterns (map pattern_of l.pats)))
