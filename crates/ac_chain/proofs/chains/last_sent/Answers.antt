use Rattle.std.proofs.Common.{◌∙◌, sym}
use Rattle.ac_chain.proofs.Sending.{sent_last}
use Rattle.ac_chain.proofs.chains.last_sent.Goals as goal

pub returns-in-Some : goal.returns-in-Some
returns-in-Some c = c.as_slice.ensures ∙ sym (sent_last c.args.parts.now c.in-Some.part.now (sym c.in-Some.ensures.value))
