use Rattle.std.proofs.Common.{◌≡◌, ◌≤◌, ◌++◌}
use Rattle.ac_rules.specs.Views.{Mode}
use Rattle.ac_chain.specs.ChainTexts.{programs_of}
use Rattle.ac_chain.proofs.ChainLaws.{SoFar}
use Rattle.ac_chain.proofs.chains.run_all.Given as goal

abbrev pub invariant-loop-program : goal.invariant-loop-program
invariant-loop-program g l = record {
  so_far : (mode : Mode) → SoFar mode l.steps g.C.Sink.told (programs_of l.yielded) l.parts l.made (g.C.Sink.written l.fn.console) (g.C.Sink.written l.console);
  all : l.fn.programs ≡ l.yielded ++ l.program-iterator.rest.items;
  later : g.C.Sink.faults l.fn.console ≤ g.C.Sink.faults l.console;
}
