use Rattle.std.proofs.Common.{◌≡◌, map, drop}
use Rattle.ac_terms.specs.Read.{entry_of}
use Rattle.ac_resolve_signatures.specs.EntriesInFront.{past_entries, no_outer}
use Rattle.ac_resolve_signatures.specs.Reads.{externals_of}
use Rattle.ac_resolve_signatures.proofs.front.entries_in_front.Given as goal

abbrev pub invariant-loop-entry : goal.invariant-loop-entry
invariant-loop-entry l = past_entries (externals_of l.externals) (map entry_of (drop l.entry-index l.entries)) ≡ past_entries no_outer (map entry_of l.entries)
