use Rattle.ac_terms.proofs.Renewed.{same_packet, renewed_once}
use Rattle.ac_terms.proofs.laws.renewing.Goals as goal

pub returns-clause-packet : goal.returns-clause-packet
returns-clause-packet c = same_packet

pub returns-clause-once : goal.returns-clause-once
returns-clause-once c = renewed_once
