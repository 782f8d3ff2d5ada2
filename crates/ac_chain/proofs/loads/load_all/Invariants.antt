use Rattle.std.proofs.Common.{take}
use Rattle.ac_load.specs.Loading.{shelf_of}
use Rattle.ac_chain.specs.ChainTexts.{texts_of, programs_of, LoadAs}
use Rattle.ac_chain.specs.inner.Running.{AreLoaded}
use Rattle.ac_chain.proofs.loads.load_all.Given as goal

abbrev pub invariant-loop-i : goal.invariant-loop-i
invariant-loop-i l = record {
  load : LoadAs (texts_of (take l.i l.texts)) (shelf_of l.shelf) (programs_of l.programs);
  loaded : AreLoaded l.programs;
}
