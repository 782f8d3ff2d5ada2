use Rattle.std.proofs.Common.{◌∙◌}
use Rattle.ac_decode.proofs.Named.{arity_counted}
use Rattle.ac_decode.proofs.heads.arguments.Goals as goal

pub returns : goal.returns
returns c = c.arity.ensures ∙ arity_counted _
