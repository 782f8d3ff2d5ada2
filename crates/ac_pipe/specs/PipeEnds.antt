-- What the ends of pipes say.
use Rattle.std.specs.Prelude.{◌≡◌, ◌⊎◌, ℕ, Bool, true, List, [], ◌∷◌, ◌++◌}
use Rattle.ac_spawn.specs.declared.spawner.Ended.{Ended}
use Rattle.ac_spawn.specs.declared.spawner.Ended.TheVariants.{Failed}
use Rattle.ac_run.specs.declared.end.RunEnd.{RunEnd}
use Rattle.ac_run.specs.declared.end.RunEnd.TheVariants.{ReadFault}
use Rattle.ac_pipe.specs.declared.end.PipeEnd.{PipeEnd}
use Rattle.ac_pipe.specs.declared.end.PipeEnd.TheVariants as end

-- a start is made in front of each end but that of want of memory
abbrev pub with_pipe : PipeEnd → List (List ℕ) → List (List (List ℕ)) → List (List (List ℕ))
with_pipe end.Memory words starts = starts
with_pipe end.StartFault words starts = starts ++ words ∷ []
with_pipe (end.Ran receiver rest_failed sender) words starts = starts ++ words ∷ []

-- no child has run
abbrev pub HasNotRun : PipeEnd → Type 0
HasNotRun end.Memory = Unit {0}
HasNotRun end.StartFault = Unit {0}
HasNotRun (end.Ran receiver rest_failed sender) = ⊥

-- a child and its receiver have run, and this holds of how they ended
abbrev pub IfRan : PipeEnd → (RunEnd → Bool → Ended → Type 0) → Type 0
IfRan end.Memory holds = Unit {0}
IfRan end.StartFault holds = Unit {0}
IfRan (end.Ran receiver rest_failed sender) holds = holds receiver rest_failed sender

-- a read of what the child gives failed, or the wait for its end
abbrev pub IsReadFault : RunEnd → Bool → Ended → Type 0
IsReadFault receiver rest_failed sender = (receiver ≡ ReadFault) ⊎ ((rest_failed ≡ true) ⊎ (sender ≡ Failed))
