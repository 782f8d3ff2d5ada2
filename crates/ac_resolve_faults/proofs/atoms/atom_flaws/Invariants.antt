use Rattle.std.proofs.Common.{◌≡◌, map, drop}
use Rattle.ac_types.specs.ReadTypes.{resolve_of}
use Rattle.ac_resolve_scopes.specs.Searches.{least_of}
use Rattle.ac_resolve_scopes.specs.Counts.{long_uri, many_atoms}
use Rattle.ac_resolve_signatures.specs.Joined.{counts, flaws_joined}
use Rattle.ac_resolve_faults.proofs.atoms.atom_flaws.Given as goal

abbrev pub invariant-loop-resolve : goal.invariant-loop-resolve
invariant-loop-resolve l = counts (many_atoms (map resolve_of l.by)) ≡ flaws_joined l.found (counts (least_of long_uri (map resolve_of (drop l.resolve-index l.by))))
