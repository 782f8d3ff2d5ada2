use Rattle.std.proofs.Common.{◌∙◌}
use Rattle.ac_chain.proofs.MadeLaws.{has_more}
use Rattle.ac_chain.proofs.made.note.Goals as goal

pub returns : goal.returns
returns c = has_more _ _ c.in_ok-from_slice.field-0 _ c.in_ok-insert.ensures.keys (c.in_ok-from_slice.ensures.items ∙ c.as_slice.ensures)
