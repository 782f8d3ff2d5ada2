use Rattle.std.proofs.Common.{drop}
use Rattle.ac_machine_engine.specs.Steps.{Binding}
use Rattle.ac_machine.proofs.jumps.bind_all.Given as goal

abbrev pub invariant-loop-value : goal.invariant-loop-value
invariant-loop-value l = Binding l.fn.engine l.engine l.found (drop l.value-index l.found)
