use Rattle.ac_resolve_terms.proofs.Kept.{all_named}
use Rattle.ac_resolve_terms.proofs.laws.named_entries_keep.Goals as goal

pub returns : goal.returns
returns c = all_named
