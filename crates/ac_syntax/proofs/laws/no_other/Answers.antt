use Rattle.ac_syntax.proofs.Spellings.{no_other}
use Rattle.ac_syntax.proofs.laws.no_other.Goals as goal

pub returns : goal.returns
returns c at n bytes kind spells e = no_other at n bytes kind spells e
