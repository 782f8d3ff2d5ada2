-- The equations of the readings of types.
use Rattle.ac_types.proofs.SizeLaws.{type_laws as typ_laws}
use Rattle.ac_syntax.proofs.TypeLaws.{type_laws}

pub ruleset type_forms = (type_laws, typ_laws)
