use Rattle.std.proofs.Common.{◌≡◌, ◌++◌, map, drop}
use Rattle.ac_types.specs.ReadTypes.{typed_of}
use Rattle.ac_syntax.specs.ReadTrees.{abbrev_of}
use Rattle.ac_resolve_scopes.specs.Scopes.{each_in}
use Rattle.ac_resolve_scopes.specs.Definitions.{after_abbrev, abbrev_type}
use Rattle.ac_resolve_names.specs.Fronts.{front_of, outer_of}
use Rattle.ac_resolve_terms.proofs.types.like.Given as goal

abbrev pub invariant-loop-a : goal.invariant-loop-a
invariant-loop-a l =
    each_in after_abbrev abbrev_type (front_of l.front) (map abbrev_of l.abbrevs)
    ≡ map typed_of l.found.types ++ each_in after_abbrev abbrev_type (outer_of l.found.outer) (map abbrev_of (drop l.a-index l.abbrevs))
