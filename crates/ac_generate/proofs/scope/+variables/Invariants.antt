use Rattle.std.proofs.Common.{◌≡◌, ◌++◌, map, drop}
use Rattle.ac_types.specs.ReadTypes.{typ_of}
use Rattle.ac_terms.specs.Read.{pattern_of}
use Rattle.ac_terms.specs.Terms.{patterns}
use Rattle.ac_terms.specs.Parts.{all_pattern_types}
use Rattle.ac_generate.proofs.scope.+variables.Given as goal

abbrev pub invariant-add_all_variables-loop-pat : goal.invariant-add_all_variables-loop-pat
invariant-add_all_variables-loop-pat l = map typ_of l.types.items ++ all_pattern_types (patterns (map pattern_of (drop l.pat-index l.pats))) ≡ map typ_of l.initial.types.items ++ all_pattern_types (patterns (map pattern_of l.pats))
