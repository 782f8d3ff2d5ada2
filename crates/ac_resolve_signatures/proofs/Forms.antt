-- The equations of the readings, as the proofs of this crate use them.
use Rattle.ac_types.proofs.SizeLaws.{type_laws as typ_laws}
use Rattle.ac_syntax.proofs.TypeLaws.{type_laws}
use Rattle.ac_resolve_signatures.proofs.Counted.{type_count_of}
use Rattle.ac_resolve_signatures.proofs.Sizes.{around-sizes}

pub ruleset typ_forms = (typ_laws, around-sizes)

pub ruleset type_forms = (type_laws, type_count_of)
