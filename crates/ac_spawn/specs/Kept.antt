-- What a spawner in memory keeps.
use Rattle.std.specs.Prelude.{ℕ, ℤ, Bool, List}
use Rattle.ac_outside.specs.declared.calls.Calls.{Calls}

-- whether its child runs, the words of its starts, the bytes that the child has left and the status that it ends with, its starts, and its reads and waits
pub record Spawned : Type 0 where
  pub running : Bool
  pub started : List (List (List ℕ))
  pub left : List ℕ
  pub status : ℤ
  pub starts : Calls
  pub reads : Calls
