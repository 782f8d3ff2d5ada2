use Rattle.ac_meaning.proofs.BareEndings.{one_bare_end}
use Rattle.ac_meaning.proofs.laws.one_bare_end.Goals as goal

pub returns : goal.returns
returns c = one_bare_end
