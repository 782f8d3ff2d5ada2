use Rattle.std.proofs.Common.{arith}
use Rattle.ac_terms.proofs.CutLaws.{cut_next, cut_less, cut_last}
use Rattle.ac_terms.proofs.env.Env.cut.Goals as goal

pub loop-self-preserved : goal.loop-self-preserved
loop-self-preserved c = cut_next c.args.many c.loop-self.self c.pop.new.self _ c.pop.result c.pop.ensures.entries (omega arith) c.loop-self.invariant

pub loop-self-smaller : goal.loop-self-smaller
loop-self-smaller c = cut_less c.args.many c.loop-self.self.entries c.pop.new.self.entries c.pop.result c.pop.ensures.len (omega arith)

pub returns : goal.returns
returns c = cut_last c.args.many c.loop-self.self.entries _ (omega arith) c.loop-self.invariant
