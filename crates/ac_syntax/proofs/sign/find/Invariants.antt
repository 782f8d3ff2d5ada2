use Rattle.std.proofs.Common.{◌≡◌, map, drop}
use Rattle.ac_syntax.specs.Signs.{sign_spelled}
use Rattle.ac_syntax.specs.ReadSigns.{spelling_of}
use Rattle.ac_syntax.proofs.sign.find.Given as goal

abbrev pub invariant-loop-entry : goal.invariant-loop-entry
invariant-loop-entry l = sign_spelled l.bytes (map spelling_of l.spellings) ≡ sign_spelled l.bytes (map spelling_of (drop l.entry-index l.spellings))
