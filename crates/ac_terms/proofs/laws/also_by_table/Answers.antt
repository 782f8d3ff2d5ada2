use Rattle.ac_terms.proofs.TableLength.{also_by_table}
use Rattle.ac_terms.proofs.laws.also_by_table.Goals as goal

pub returns : goal.returns
returns c = also_by_table
