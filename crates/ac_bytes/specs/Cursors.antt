-- Reading from the front of bytes.
use Rattle.std.specs.Prelude.{◌≡◌, ℕ, ◌+◌, ◌++◌, length}
use Rattle.ac_types.specs.Types.{Bytes}

-- the bytes that are left, and how many were taken
pub record Unread : Type 0 where
  pub left : Bytes
  pub taken : ℕ

-- these bytes stood in front and were taken
abbrev pub TakesBytes : Unread → Bytes → Unread → Type 0
TakesBytes old bytes new = (old.left ≡ bytes ++ new.left) × (new.taken ≡ old.taken + length bytes)
