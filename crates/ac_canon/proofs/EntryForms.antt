-- The entries of an environment, read.
use Rattle.std.proofs.lemmas.List.{append-nil}
use Rattle.ac_terms.proofs.EnvLaws.{entry_get}

pub ruleset entry_forms = (entry_get, append-nil)
