use Rattle.std.proofs.Common.{◌≡◌, [], ◌++◌, drop, map}
use Rattle.ac_terms.specs.Terms.{patterns}
use Rattle.ac_terms.specs.Read.{pattern_of}
use Rattle.acute_listings.specs.Listing.{patterns_shown}
use Rattle.acute_listings.proofs.patterns.+pat.Given as goal

abbrev pub invariant-put_patterns-loop-pat : goal.invariant-put_patterns-loop-pat
invariant-put_patterns-loop-pat l = l.text.0 ++ patterns_shown l.front (patterns (map pattern_of (drop l.pat-index l.pats))) ≡ l.initial.text.0 ++ patterns_shown [] (patterns (map pattern_of l.pats))
