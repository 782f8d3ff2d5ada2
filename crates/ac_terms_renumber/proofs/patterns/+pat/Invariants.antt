use Rattle.std.proofs.Common.{◌≡◌, drop, map}
use Rattle.std.specs.List.{list_all}
use Rattle.ac_types.specs.Types.{Typ}
use Rattle.ac_terms.specs.Terms.{patterns}
use Rattle.ac_terms.specs.Parts.{OfType, all_pattern_types}
use Rattle.ac_terms.specs.Read.{pattern_of}
use Rattle.ac_terms_renumber.proofs.patterns.+pat.Given as goal

abbrev pub invariant-patterns_pass-loop-pat : goal.invariant-patterns_pass-loop-pat
invariant-patterns_pass-loop-pat g l =
    let passes = λ (U : Typ). g.T.Test.passes l.test (OfType U) in
    list_all passes (all_pattern_types (patterns (map pattern_of l.pats))) ≡ list_all passes (all_pattern_types (patterns (map pattern_of (drop l.pat-index l.pats))))
