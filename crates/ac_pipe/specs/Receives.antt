-- How a program runs that receives what a child gives.
use Rattle.std.specs.Prelude.{◌≡◌, ℕ, Bool, false, []}
use Rattle.ac_types.specs.Types.{Bytes}
use Rattle.ac_machine_engine.specs.Seen.{MachineSeen}
use Rattle.ac_rules.specs.declared.loaded.Loaded.{Loaded}
use Rattle.ac_run.specs.Course.{begun}
use Rattle.ac_run.specs.Sessions.{Session, HasInput, RunsTo, streams}
use Rattle.ac_run.specs.declared.end.RunEnd.{RunEnd}

-- a session of the program, which has no channel to send to, has run with some input, which is what the child had left where all is told; the console had the first of these bytes, and has the second
pub record ReceivesTo (told : Bool) (left : Bytes) (loaded : Loaded) (steps : ℕ) (end : RunEnd) (old new : Bytes) : Type 0 where
  pub machine : MachineSeen
  pub last : Session
  pub input : Bytes
  pub gets : HasInput told left input
  pub runs : RunsTo told (begun loaded steps false machine) last input end (streams old []) (streams new [])
  pub budget : last.steps ≡ steps
