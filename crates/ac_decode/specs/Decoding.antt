-- What a decoder answers.
use Rattle.std.specs.Prelude.{Result, Ok, Err}
use Rattle.ac_decode.specs.declared.packets.DecodeFault.{DecodeFault}
use Rattle.ac_decode.specs.declared.packets.DecodeFault.TheVariants as fault

-- what holds where it answers that the bytes are none
abbrev pub OnFormat : {X : Type 0} → Result X DecodeFault → Type 0 → Type 0
OnFormat (Ok x) P = Unit {0}
OnFormat (Err (fault.Format at)) P = P
OnFormat (Err fault.Memory) P = Unit {0}
