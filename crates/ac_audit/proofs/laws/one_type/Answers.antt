use Rattle.ac_audit.proofs.TypeLaws.{one_text, one_kind, text_or_refused}
use Rattle.ac_audit.proofs.laws.one_type.Goals as goal

pub returns-clause-one : goal.returns-clause-one
returns-clause-one c = one_text

pub returns-clause-refused : goal.returns-clause-refused
returns-clause-refused c = one_kind

pub returns-clause-not_both : goal.returns-clause-not_both
returns-clause-not_both c = text_or_refused
