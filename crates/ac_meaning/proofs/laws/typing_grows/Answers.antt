use native.Mathlib.Omega.{arith}
use Rattle.ac_meaning.proofs.GrowthTyped.{typed_more}
use Rattle.ac_rules.proofs.GrowthTyping.{has_type_more, packed_more}
use Rattle.ac_meaning.proofs.laws.typing_grows.Goals as goal

pub returns-clause-steps : goal.returns-clause-steps
returns-clause-steps c = λ mode E F g e d G T i h. typed_more mode E F g e d G T i h

pub returns-clause-source : goal.returns-clause-source
returns-clause-source c = λ mode E F g S e T i h. has_type_more E F g mode S S.refs e T (omega arith) i h

pub returns-clause-packed : goal.returns-clause-packed
returns-clause-packed c = packed_more
