use Rattle.ac_meaning.proofs.Budgets.{within_budget}
use Rattle.ac_meaning.proofs.laws.within_budget.Goals as goal

pub returns : goal.returns
returns c = within_budget
