-- The equations that the making of terms needs.
use Rattle.ac_syntax.proofs.ReadLaws.{expr_laws}
use Rattle.ac_resolve_terms.proofs.TermLaws.{made_laws}
use Rattle.ac_resolve_terms.proofs.Within.{none_left, none_right}

pub ruleset term_forms = (expr_laws, made_laws, none_left, none_right)
