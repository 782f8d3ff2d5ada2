use Rattle.std.proofs.Common.{◌≡◌, map, drop}
use Rattle.ac_syntax.specs.ReadTrees.{abbrev_of}
use Rattle.ac_resolve_signatures.specs.Joined.{flaws_joined}
use Rattle.ac_resolve_signatures.specs.KnownScopes.{known_outside}
use Rattle.ac_resolve_signatures.specs.SigFlaws.{past_abbrev, abbrev_flaws, flaws_in}
use Rattle.ac_resolve_signatures.specs.Reads.{known_in, externals_of}
use Rattle.ac_resolve_faults.proofs.defs.walk_like.Given as goal

abbrev pub invariant-loop-alias : goal.invariant-loop-alias
invariant-loop-alias l =
    flaws_in past_abbrev abbrev_flaws (known_outside (externals_of l.externals)) (map abbrev_of l.like) ≡ flaws_joined l.found (flaws_in past_abbrev abbrev_flaws (known_in l.scan) (map abbrev_of (drop l.alias-index l.like)))
