-- What was started and taken, by how a pipe ended.
use Rattle.std.proofs.Common.{◌≡◌, inr, Bool, IsTrue, List, ℤ, Some, None, refl, ◌∙◌}
use Rattle.ac_types.specs.Types.{Bytes}
use Rattle.ac_outside.specs.Outside.{Rose}
use Rattle.ac_run.specs.declared.end.RunEnd.{RunEnd}
use Rattle.ac_spawn.specs.Children.{EndsWith}
use Rattle.ac_spawn.specs.declared.spawner.Ended.{Ended}
use Rattle.ac_spawn.specs.declared.spawner.Ended.TheVariants as ended
use Rattle.ac_pipe.specs.Draining.{IsDrained}
use Rattle.ac_pipe.specs.PipeEnds.{HasNotRun, IfRan, IsReadFault, with_pipe}
use Rattle.ac_pipe.specs.declared.end.PipeEnd.{PipeEnd}
use Rattle.ac_pipe.specs.declared.end.PipeEnd.TheVariants as end
use Rattle.acute_pipe.specs.Senders.{status_in}
use Rattle.acute_pipe.specs.Spawnings.{Spawning, ChildFailed, PipesSo}

-- without a status the wait failed
failed_of : (s : Ended) → status_in s ≡ None → s ≡ ended.Failed
failed_of (ended.Status n) is = absurd cc
failed_of ended.Failed is = refl

-- a status is the child's
status_of : (e : Ended) (status s : ℤ) → EndsWith e status → status_in e ≡ Some s → s ≡ status
status_of (ended.Status n) status s is some = let same : s ≡ n = cc in same ∙ is
status_of ended.Failed status s is some = absurd cc

module _ (words : List Bytes) (c : Spawning) where
  pub pipes_so : (e : PipeEnd) → (IsTrue c.told → c.new.started ≡ with_pipe e words c.old.started) → (HasNotRun e → IsTrue c.told → c.new.left ≡ c.old.left) → (e ≡ end.StartFault → Rose c.old.start_faults c.new.start_faults)
      → IfRan e (λ receiver rest_failed sender. IsReadFault receiver rest_failed sender → ChildFailed c) → IfRan e (λ receiver rest_failed sender. IsTrue c.told → EndsWith sender c.old.status) → IfRan e (λ receiver rest_failed sender. IsTrue c.told → (ChildFailed c → ⊥) → IsDrained c.old.left c.new.left)
      → PipesSo c words e
  pipes_so end.Memory started left rose reads ends drained = record { started = started; left = left tt }
  pipes_so end.StartFault started left rose reads ends drained = record { one = started; rose = rose refl; left = left tt }
  pipes_so (end.Ran receiver rest_failed sender) started left rose reads ends drained = (
    record {
      one = started;
      drained = drained;
      waited = λ none. reads (inr (inr (failed_of sender none)));
      status = λ told s some. status_of sender c.old.status s (ends told) some;
    },
    reads,
  )

-- what holds where both have run
pub ran_by : (e : PipeEnd) (P Q : RunEnd → Bool → Ended → Type 0) → ((receiver : RunEnd) (rest_failed : Bool) (sender : Ended) → P receiver rest_failed sender → Q receiver rest_failed sender) → IfRan e P → IfRan e Q
ran_by end.Memory P Q wide h = tt
ran_by end.StartFault P Q wide h = tt
ran_by (end.Ran receiver rest_failed sender) P Q wide h = wide receiver rest_failed sender h
