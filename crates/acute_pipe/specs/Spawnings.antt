-- What starts children, as a call is handed it: before the call and after it.
use Rattle.std.specs.Prelude.{◌≡◌, ℤ, Bool, IsTrue, List, [], ◌∷◌, ◌++◌, Option, Some, None}
use Rattle.ac_types.specs.Types.{Bytes}
use Rattle.ac_outside.specs.Outside.{Rose}
use Rattle.ac_spawn.specs.Children.{Child}
use Rattle.ac_spawn.specs.declared.spawner.Spawner.{Ghosts as SpawnerOf}
use Rattle.ac_pipe.specs.Draining.{IsDrained}
use Rattle.ac_pipe.specs.PipeEnds.{IsReadFault}
use Rattle.ac_pipe.specs.declared.end.PipeEnd.{PipeEnd}
use Rattle.ac_pipe.specs.declared.end.PipeEnd.TheVariants as end
use Rattle.acute_pipe.specs.Senders.{status_in}

-- what was started, and the child, before and after; and whether that is told
pub record Spawning : Type 0 where
  pub told : Bool
  pub old : Child
  pub new : Child

abbrev pub spawning : {P : Type 0} → SpawnerOf P → P → P → Spawning
spawning spawner old new = record { told = spawner.told; old = spawner.child old; new = spawner.child new }

module _ (c : Spawning) where
  -- nothing was started, and nothing was taken of what the child would give
  pub record NoStart : Type 0 where
    pub started : IsTrue c.told → c.new.started ≡ c.old.started
    pub left : IsTrue c.told → c.new.left ≡ c.old.left

  -- one start was made, by these words
  abbrev pub OneStart : List Bytes → Type 0
  OneStart words = IsTrue c.told → c.new.started ≡ c.old.started ++ words ∷ []

  -- the count of failed starts rose
  abbrev pub StartFailed : Type 0
  StartFailed = Rose c.old.start_faults c.new.start_faults

  -- that start failed: nothing was taken
  pub record HasNotStarted (words : List Bytes) : Type 0 where
    pub one : OneStart words
    pub rose : StartFailed
    pub left : IsTrue c.told → c.new.left ≡ c.old.left

  -- a read of what the child gives failed, or the wait for its end
  abbrev pub ChildFailed : Type 0
  ChildFailed = Rose c.old.read_faults c.new.read_faults

  -- the child has run to its end, which is this status, or none where the wait for it failed; where no read failed, it has nothing left, or much was taken of it
  pub record HasEnded (words : List Bytes) (sender : Option ℤ) : Type 0 where
    pub one : OneStart words
    pub drained : IsTrue c.told → (ChildFailed → ⊥) → IsDrained c.old.left c.new.left
    pub waited : sender ≡ None → ChildFailed
    pub status : IsTrue c.told → (s : ℤ) → sender ≡ Some s → s ≡ c.old.status

  -- what was started by these words and taken, by how the pipe ended
  abbrev pub PipesSo : List Bytes → PipeEnd → Type 0
  PipesSo words end.Memory = NoStart
  PipesSo words end.StartFault = HasNotStarted words
  PipesSo words (end.Ran receiver rest_failed sender) = HasEnded words (status_in sender) × (IsReadFault receiver rest_failed sender → ChildFailed)
