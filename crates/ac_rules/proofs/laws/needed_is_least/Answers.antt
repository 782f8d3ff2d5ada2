use Rattle.std.specs.Prelude.{length}
use Rattle.ac_rules.proofs.NeededEarly.{needed_members}
use Rattle.ac_rules.proofs.PacketNames.{needed_rise}
use Rattle.ac_rules.proofs.laws.needed_is_least.Goals as goal

pub returns : goal.returns
returns c = λ E mark roots i r. record { rises = needed_rise E i mark (length E) roots; members = needed_members E i mark roots r }
