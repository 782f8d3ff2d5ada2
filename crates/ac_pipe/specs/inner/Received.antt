-- A session that has received what a child gives.
use Rattle.std.specs.Prelude.{◌≡◌, Bool, []}
use Rattle.ac_types.specs.Types.{Bytes}
use Rattle.ac_run.specs.Sessions.{Session, HasInput, RunsTo, streams}
use Rattle.ac_run.specs.declared.end.RunEnd.{RunEnd}

-- it has run with some input, which is what the child had left where all is told, and has sent nothing
pub record HasReceived (told : Bool) (left : Bytes) (s t : Session) (end : RunEnd) (old new : Bytes) : Type 0 where
  pub input : Bytes
  pub gets : HasInput told left input
  pub runs : RunsTo told s t input end (streams old []) (streams new [])
  pub budget : t.steps ≡ s.steps
