use Rattle.std.proofs.Common.{◌≡◌, take}
use Rattle.ac_terms.proofs.env.Env.copy.Given as goal

abbrev pub invariant-loop-entry : goal.invariant-loop-entry
invariant-loop-entry l = l.copy.entries ≡ take l.entry-index l.self.entries
