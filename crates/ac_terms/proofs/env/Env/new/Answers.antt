use Rattle.ac_terms.proofs.LookUpLaws.{in_step_none}
use Rattle.ac_terms.proofs.env.Env.new.Goals as goal

pub invariant_of-result : goal.invariant_of-result
invariant_of-result c = in_step_none _ _ _ c.new-2.ensures c.new-3.ensures c.new.ensures.items
