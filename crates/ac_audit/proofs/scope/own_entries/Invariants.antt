use Rattle.std.proofs.Common.{◌≡◌, map, take}
use Rattle.ac_terms.specs.Read.{entry_of}
use Rattle.ac_audit.specs.TypeTexts.{own_entries}
use Rattle.ac_audit.proofs.scope.own_entries.Given as goal

abbrev pub invariant-loop-entry : goal.invariant-loop-entry
invariant-loop-entry l = map entry_of l.own.entries ≡ own_entries (map entry_of (take l.entry-index l.entry-items))
