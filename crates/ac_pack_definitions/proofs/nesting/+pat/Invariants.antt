use Rattle.std.proofs.Common.{◌≡◌, drop, map}
use Rattle.std.specs.Prelude.{nat_le}
use Rattle.ac_terms.specs.Terms.{patterns}
use Rattle.ac_terms.specs.Nesting.{pattern_depth}
use Rattle.ac_terms.specs.Read.{pattern_of}
use Rattle.ac_pack_definitions.proofs.nesting.+pat.Given as goal

abbrev pub invariant-patterns_nest-loop-pat : goal.invariant-patterns_nest-loop-pat
invariant-patterns_nest-loop-pat l = nat_le (pattern_depth (patterns (map pattern_of l.pats))) l.most ≡ nat_le (pattern_depth (patterns (map pattern_of (drop l.pat-index l.pats)))) l.most
