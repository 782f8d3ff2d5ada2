-- The equations of the readings of types and terms.
use Rattle.ac_types.proofs.SizeLaws.{type_laws}
use Rattle.ac_terms.proofs.ReadLaws.{term_laws}

pub ruleset primitive_forms = (type_laws, term_laws)
