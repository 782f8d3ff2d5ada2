-- How bytes of a source are added to a text.
use Rattle.std.specs.Prelude.{◌≡◌, ◌<◌, ◌≤◌, ◌+◌, ℕ, [], ◌++◌, length}
use Rattle.ac_types.specs.Types.{Bytes}
use Rattle.ac_outside.specs.declared.filling.Fill.{Fill}
use Rattle.ac_outside.specs.declared.filling.Fill.TheVariants.{Done, End, Failed, Memory}

-- bytes were added at the end
pub record Lengthened (old new : Bytes) : Type 0 where
  pub more : Bytes
  pub is : new ≡ old ++ more

-- one read added at least one byte and at most so many, or none
abbrev pub Added : Fill → ℕ → Bytes → Bytes → Type 0
Added Done most old new = Lengthened old new × (length old < length new) × (length new ≤ length old + most)
Added End most old new = new ≡ old
Added Failed most old new = new ≡ old
Added Memory most old new = new ≡ old

-- reads added bytes until there were so many, or fewer
abbrev pub Filled : Fill → ℕ → Bytes → Bytes → Type 0
Filled Done want old new = Lengthened old new × (length new ≡ want)
Filled End want old new = Lengthened old new × (length new < want)
Filled Failed want old new = Lengthened old new × (length new ≤ want)
Filled Memory want old new = Lengthened old new × (length new ≤ want)

-- what a source has lost the text has got; these bytes were left and are left
abbrev pub Moves : Fill → Bytes → Bytes → Bytes → Bytes → Type 0
Moves Done old left new now = old ++ left ≡ new ++ now
Moves End old left new now = (old ++ left ≡ new) × (now ≡ [])
Moves Failed old left new now = old ++ left ≡ new ++ now
Moves Memory old left new now = Unit {0}
