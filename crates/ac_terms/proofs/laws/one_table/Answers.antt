use Rattle.ac_terms.proofs.TableBack.{any_table}
use Rattle.ac_terms.proofs.TableLaws.{is_table, only_table}
use Rattle.ac_terms.proofs.laws.one_table.Goals as goal

pub returns-clause-there : goal.returns-clause-there
returns-clause-there c = is_table

pub returns-clause-only : goal.returns-clause-only
returns-clause-only c = only_table

pub returns-clause-spelling : goal.returns-clause-spelling
returns-clause-spelling c = any_table
