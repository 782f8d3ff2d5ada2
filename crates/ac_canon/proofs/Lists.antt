-- How lists that were written join.
use Rattle.std.proofs.lemmas.List.{append-nil, append_assoc, length-map}

pub ruleset lists = (append-nil, append_assoc, length-map)
