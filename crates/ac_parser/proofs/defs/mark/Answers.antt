use Rattle.ac_parser.proofs.ProgramSteps.{mark_read}
use Rattle.ac_parser.proofs.defs.mark.Goals as goal

pub returns : goal.returns
returns c = record {
  found = mark_read _ _ _ _ _ (rw c.in-Some.is at c.in_ok-text_at.ensures.found);
  shorter = rw c.in-Some.is at c.in_ok-text_at.ensures.shorter;
}
