use Rattle.ac_resolve_scopes.proofs.AddedEntries.{term_refers}
use Rattle.ac_resolve_scopes.proofs.laws.term_refers.Goals as goal

pub returns : goal.returns
returns c = term_refers
