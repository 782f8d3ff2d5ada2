-- What types mention.
use Rattle.std.proofs.Common.{append-nil, append_assoc}
use Rattle.std.proofs.lemmas.List.Elements.{filter_map-append}
use Rattle.std.proofs.lemmas.Grind.{common_steps}
use Rattle.ac_types.proofs.SizeLaws.{type_laws}
use Rattle.ac_terms.proofs.EnvLaws.{env_laws}

pub ruleset mention_laws = (type_laws, env_laws, filter_map-append, append-nil, append_assoc, common_steps)
