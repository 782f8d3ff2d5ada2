use Rattle.std.proofs.Common.{◌∙◌, sym, ap}
use Rattle.ac_pack_terms.specs.inner.Slots.{later}
use Rattle.ac_pack_terms.proofs.around.later.Goals as goal

pub returns-in-None : goal.returns-in-None
returns-in-None c = c.in-None.ensures ∙ sym (ap later c.in-None.ensures)

pub returns-in-Some : goal.returns-in-Some
returns-in-Some c = sym (ap later c.in-Some.ensures)
