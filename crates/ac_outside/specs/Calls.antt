-- Calls that are to fail.
use Rattle.std.specs.Prelude.{ℕ, List}
use Rattle.ac_outside.specs.declared.calls.Calls.{Calls}

-- no call was made
abbrev pub unused : List ℕ → Calls
unused fail = record { fail = fail; made = 0; failed = 0 }
