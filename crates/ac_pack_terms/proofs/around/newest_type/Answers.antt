use Rattle.std.proofs.Common.{◌∙◌, sym, ap}
use Rattle.ac_pack_terms.specs.inner.Slots.{newest_type}
use Rattle.ac_pack_terms.proofs.around.newest_type.Goals as goal

pub returns-in-None : goal.returns-in-None
returns-in-None c = c.requires ∙ sym (ap newest_type c.in-None.ensures)

pub returns-in-Some : goal.returns-in-Some
returns-in-Some c = sym (ap newest_type c.in-Some.ensures)
