use Rattle.ac_types.proofs.Equal.{equal_is_same}
use Rattle.ac_types.proofs.ty.same_types.Goals as goal

pub returns : goal.returns
returns c = equal_is_same _ _ _ c.ty_eq.ensures
