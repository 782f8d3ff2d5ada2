use Rattle.ac_resolve_scopes.proofs.AddedEntries.{adds_entries}
use Rattle.ac_resolve_scopes.proofs.laws.adds_entries.Goals as goal

pub returns : goal.returns
returns c = adds_entries
