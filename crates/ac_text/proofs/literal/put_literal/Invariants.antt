use Rattle.std.proofs.Common.{◌≡◌, [], ◌++◌, ◌∷◌, take}
use Rattle.std.specs.List.{flat_map}
use Rattle.ac_text.specs.Literals.{escaped}
use Rattle.ac_text.proofs.literal.put_literal.Given as goal

abbrev pub invariant-loop-byte : goal.invariant-loop-byte
invariant-loop-byte l = l.text.0 ≡ (l.fn.text.0 ++ 34 ∷ []) ++ flat_map escaped (take l.byte-index l.bytes)
