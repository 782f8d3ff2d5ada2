-- What the calls of the outside do to the bytes that an object tells, and when they may fail.
use Rattle.std.specs.Prelude.{◌≡◌, ◌⊎◌, ◌<◌, ◌≤◌, ◌+◌, ◌-◌, ◌^◌, ℕ, List, [], ◌++◌, length, take, drop, min, Option, Some, None}
use Rattle.ac_outside.specs.declared.traits.Got.{Got}
use Rattle.ac_outside.specs.declared.traits.Got.TheVariants.{Bytes, End, Failed}
use Rattle.ac_outside.specs.declared.traits.Put.{Put}
use Rattle.ac_outside.specs.declared.traits.Put.TheVariants as put

-- the next value of a counter of 64 bits, which stops at its last value
abbrev pub risen : ℕ → ℕ
risen n = min (n + 1) (2 ^ 64 - 1)

-- the count has risen, or stands at the last value of a counter of 64 bits
abbrev pub Rose : ℕ → ℕ → Type 0
Rose before now = risen before ≤ now

-- the bytes of each name
abbrev pub Contents : Type 0
Contents = List ℕ → Option (List ℕ)

-- no count of a name falls
abbrev pub NeverFall : (List ℕ → ℕ) → (List ℕ → ℕ) → Type 0
NeverFall before now = (name : List ℕ) → before name ≤ now name

-- one to max bytes were taken, or none
abbrev pub IsWithin : Got → ℕ → Type 0
IsWithin (Bytes n) max = (0 < n) × (n ≤ max)
IsWithin End max = Unit {0}
IsWithin Failed max = Unit {0}

-- what was taken from a place on ends by this place
abbrev pub EndsBy : Got → ℕ → ℕ → Type 0
EndsBy (Bytes n) from end = from + n ≤ end
EndsBy End from end = Unit {0}
EndsBy Failed from end = Unit {0}

-- n of the bytes that are left stand at the front of the buffer
pub record Taken (n : ℕ) (left buf : List ℕ) : Type 0 where
  pub there : n ≤ length left
  pub same : take n buf ≡ take n left

-- what a read answers where these bytes are left
abbrev pub Takes : Got → List ℕ → List ℕ → Type 0
Takes (Bytes n) left buf = Taken n left buf
Takes End left buf = left ≡ []
Takes Failed left buf = Unit {0}

-- the bytes that a read leaves of those that were left
abbrev pub rest : Got → List ℕ → List ℕ
rest (Bytes n) left = drop n left
rest End left = left
rest Failed left = left

-- what a read of a file from a place answers
abbrev pub ReadsFrom : Got → Option (List ℕ) → ℕ → List ℕ → Type 0
ReadsFrom got (Some bytes) from buf = Takes got (drop from bytes) buf
ReadsFrom got None from buf = got ≡ Failed

-- a file has fewer than 2^64 bytes
abbrev pub IsShort : Option (List ℕ) → Type 0
IsShort None = Unit {0}
IsShort (Some bytes) = length bytes < 2 ^ 64

-- some front of the piece was written, and the rest was not
pub record Extends (old new piece : List ℕ) : Type 0 where
  pub front : List ℕ
  pub rest : List ℕ
  pub split : piece ≡ front ++ rest
  pub new_is : new ≡ old ++ front

-- what a write leaves: the whole piece, or some front of it
abbrev pub Wrote : Put → List ℕ → List ℕ → List ℕ → Type 0
Wrote put.Done old new piece = new ≡ old ++ piece
Wrote put.Failed old new piece = Extends old new piece
Wrote put.Memory old new piece = Extends old new piece

-- a file that was made empty, or is as it was
abbrev pub Created : Put → Option (List ℕ) → Option (List ℕ) → Type 0
Created put.Done old new = new ≡ Some []
Created put.Failed old new = (new ≡ old) ⊎ (new ≡ Some [])
Created put.Memory old new = (new ≡ old) ⊎ (new ≡ Some [])

abbrev pub or_empty : Option (List ℕ) → List ℕ
or_empty None = []
or_empty (Some bytes) = bytes

-- bytes added at the end of a file, which is made first where it is missing
abbrev pub Appended : Put → Option (List ℕ) → Option (List ℕ) → List ℕ → Type 0
Appended put.Done old new piece = new ≡ Some (or_empty old ++ piece)
Appended put.Failed old new piece = (new ≡ old) ⊎ ((n : ℕ) × (new ≡ Some (or_empty old ++ take n piece)))
Appended put.Memory old new piece = (new ≡ old) ⊎ ((n : ℕ) × (new ≡ Some (or_empty old ++ take n piece)))

-- the other names have the bytes that they had
abbrev pub OthersSame : List ℕ → Contents → Contents → Type 0
OthersSame name old new = (other : List ℕ) → (other ≡ name → ⊥) → new other ≡ old other
