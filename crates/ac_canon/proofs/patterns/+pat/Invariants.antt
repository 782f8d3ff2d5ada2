use Rattle.std.proofs.Common.{◌≡◌, ◌++◌, drop, map}
use Rattle.ac_terms.specs.Terms.{patterns}
use Rattle.ac_terms.specs.Read.{pattern_of}
use Rattle.ac_terms.specs.SpelledBy.{all_pattern_bytes}
use Rattle.ac_canon.proofs.patterns.+pat.Given as goal

abbrev pub invariant-put_patterns-loop-pat : goal.invariant-put_patterns-loop-pat
invariant-put_patterns-loop-pat g l =
    let type_bytes = g.S.Spelling.spelled_type l.spelling in
    l.out ++ all_pattern_bytes type_bytes (patterns (map pattern_of (drop l.pat-index l.pats))) ≡ l.initial.out ++ all_pattern_bytes type_bytes (patterns (map pattern_of l.pats))
