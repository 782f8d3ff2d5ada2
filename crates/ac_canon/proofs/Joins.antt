-- How what was written joins.
use Rattle.std.proofs.lemmas.Grind.{common_steps}
use Rattle.std.proofs.lemmas.List.{append-nil, append_assoc}

pub ruleset joins = (append-nil, append_assoc, common_steps)
