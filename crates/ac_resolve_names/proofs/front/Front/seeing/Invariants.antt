use Rattle.std.proofs.Common.{◌≡◌, true, [], map, take, drop}
use Rattle.std.specs.List.{list_all}
use Rattle.ac_terms.specs.Read.{entry_of}
use Rattle.ac_resolve_scopes.specs.Scopes.{scope_behind, with_entry, after_all}
use Rattle.ac_resolve_names.specs.Entries.{is_called}
use Rattle.ac_resolve_names.proofs.FrontLaws.{front_at}
use Rattle.ac_resolve_names.proofs.front.Front.seeing.Given as goal

abbrev pub invariant-loop-entry : goal.invariant-loop-entry
invariant-loop-entry l = record {
  counted : l.number ≡ l.entry-index;
  called : list_all (is_called (map entry_of l.entries)) l.externals ≡ true;
  left :
      after_all with_entry (scope_behind []) (map entry_of l.entries)
      ≡ after_all with_entry (front_at (map entry_of (take l.entry-index l.entries)) l.externals) (map entry_of (drop l.entry-index l.entries));
}
