-- The reading of terms, in the forms that hold lists or options.
use Rattle.ac_terms.proofs.ReadLaws.{term_laws}
use Rattle.ac_terms.proofs.TermForms.{expr_of-ExnOf, expr_of-Match, expr_of-Try}

pub ruleset made_laws = (term_laws, expr_of-Match, expr_of-Try, expr_of-ExnOf)
