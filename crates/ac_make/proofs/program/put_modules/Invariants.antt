use Rattle.std.proofs.Common.{◌≡◌, ◌++◌, ◌*◌}
use Rattle.ac_make.specs.Draws.{state_after}
use Rattle.ac_make.specs.ProgramText.{module_text, of_each}
use Rattle.ac_make.proofs.program.put_modules.Given as goal

abbrev pub invariant-loop-i : goal.invariant-loop-i
invariant-loop-i l = record {
  drawn : l.draws.state ≡ state_after l.seed (2 * l.i);
  put : l.text.0 ≡ l.initial.text.0 ++ of_each (module_text l.seed) l.i;
}
