-- Child programs: what has been started, what the child gives, and what the calls do to that.
use Rattle.std.specs.Prelude.{ℕ, ℤ, ◌≡◌, Bool, true, false, List, [], ◌∷◌, ◌++◌}
use Rattle.ac_outside.specs.declared.traits.Put.{Put}
use Rattle.ac_outside.specs.declared.traits.Put.TheVariants as put
use Rattle.ac_spawn.specs.declared.spawner.Ended.{Ended}
use Rattle.ac_spawn.specs.declared.spawner.Ended.TheVariants as ended

-- whether a child runs; the words of each start that was done or failed, in their order; the bytes that the child has left to give, or will give once it is started; the status with which it ends; and how often a start has failed, and a read or a wait
pub record Child : Type 0 where
  pub running : Bool
  pub started : List (List (List ℕ))
  pub left : List ℕ
  pub status : ℤ
  pub start_faults : ℕ
  pub read_faults : ℕ

-- a child runs after a start that was done alone
abbrev pub is_done : Put → Bool
is_done put.Done = true
is_done put.Failed = false
is_done put.Memory = false

-- a start that wanted memory is none
abbrev pub with_start : Put → List (List ℕ) → List (List (List ℕ)) → List (List (List ℕ))
with_start put.Done words starts = starts ++ words ∷ []
with_start put.Failed words starts = starts ++ words ∷ []
with_start put.Memory words starts = starts

-- what a wait answers of a child that ends with this status
abbrev pub EndsWith : Ended → ℤ → Type 0
EndsWith (ended.Status s) status = s ≡ status
EndsWith ended.Failed status = Unit {0}
