use Rattle.std.proofs.Common.{◌≡◌, take}
use Rattle.ac_syntax.specs.Signs.{signs}
use Rattle.ac_syntax.specs.ReadSigns.{read_signs}
use Rattle.ac_syntax.proofs.sign.signs.Given as goal

abbrev pub invariant-loop-token : goal.invariant-loop-token
invariant-loop-token l = read_signs l.found.items ≡ signs (take l.token-index l.tokens)
