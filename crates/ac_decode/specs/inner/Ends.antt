-- What is read of all bytes.
use Rattle.std.specs.Prelude.{[], ◌∷◌, Option, Some, None, option_and_then}
use Rattle.ac_types.specs.Types.{Bytes}
use Rattle.ac_terms.specs.PacketReading.{ReadsPart}

-- what is read of all bytes
abbrev pub then_end : {A : Type 0} → A × Bytes → Option (A × Bytes)
then_end (a, []) = Some (a, [])
then_end (a, (b ∷ bs)) = None

abbrev pub to_the_end : {A : Type 0} → ReadsPart A → ReadsPart A
to_the_end f bs = option_and_then then_end (f bs)
