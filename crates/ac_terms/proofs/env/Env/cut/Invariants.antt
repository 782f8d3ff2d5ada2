use Rattle.std.proofs.Common.{◌≡◌, length, take}
use Rattle.ac_terms.proofs.env.Env.cut.Given as goal

abbrev pub invariant-loop-self : goal.invariant-loop-self
invariant-loop-self l = take l.many l.self.entries ≡ take l.many l.fn.self.entries

abbrev pub decreases-loop-self : goal.decreases-loop-self
decreases-loop-self l = length l.self.entries
