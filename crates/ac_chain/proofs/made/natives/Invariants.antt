use Rattle.std.proofs.Common.{List, drop}
use Rattle.ac_types.specs.Types.{Bytes}
use Rattle.ac_chain.specs.inner.Made.{Has}
use Rattle.ac_chain.proofs.MadeLaws.{SoFar}
use Rattle.ac_chain.proofs.made.natives.Given as goal

abbrev pub invariant-loop-crossing : goal.invariant-loop-crossing
invariant-loop-crossing l = (earlier : List Bytes) → Has l.fn.made earlier → SoFar l.journal (drop l.crossing-index l.journal) l.native l.made earlier
