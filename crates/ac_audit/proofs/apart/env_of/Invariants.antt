use Rattle.std.proofs.Common.{◌≡◌, take}
use Rattle.ac_audit.proofs.apart.env_of.Given as goal

abbrev pub invariant-loop-entry : goal.invariant-loop-entry
invariant-loop-entry l = l.env.entries ≡ take l.entry-index l.entries
