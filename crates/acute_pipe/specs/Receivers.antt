-- The receiver of a pipe: how its run ends, as its text means it with what the child gives.
use Rattle.std.specs.Prelude.{◌≡◌, ◌⊎◌, ℕ, Bool, true, false, IsTrue, List, []}
use Rattle.ac_types.specs.Types.{Bytes, Typ}
use Rattle.ac_terms.specs.Terms.{Expr, Value}
use Rattle.ac_terms.specs.Defs.{Environment}
use Rattle.ac_rules.specs.Views.{Mode}
use Rattle.ac_meaning.specs.Acts.{Outcome, receives_of}
use Rattle.ac_meaning.specs.ReadExn.{exn_of}
use Rattle.ac_meaning.specs.Reduction.{Ends}
use Rattle.ac_meaning.specs.Writes.{Write}
use Rattle.ac_load_rules.specs.Accepting.{Shelved}
use Rattle.ac_load.specs.Loading.{Loads}
use Rattle.ac_run.specs.Sessions.{Streams, streams, HasInput, with_writes, StopsIn, StopsBehind, StopsAtReceive}
use Rattle.ac_run.specs.declared.end.RunEnd.{RunEnd}
use Rattle.ac_run.specs.declared.end.RunEnd.TheVariants as end
use Rattle.acute_answers.specs.declared.status.TheConstants.Status.{FINISHED, UNCAUGHT, SPENT}
use Rattle.acute_answers.specs.Lines.{uncaught_line, spent_line}
use Rattle.acute_answers.specs.Meaning.{CommandAnswer, Means}

module _ (text : Bytes) (shelf : List Shelved) (steps : ℕ) (input : Bytes) where
  -- this is what it means, in each mode
  abbrev pub MeansReceived : CommandAnswer → Type 0
  MeansReceived a = (mode : Mode) → Means mode text shelf steps input false a

  -- it is accepted, and came to a receive: what it had printed in front of that was printed, and nothing else
  pub record StandsReading (mode : Mode) (told : Bool) (old new : Streams) : Type 0 where
    pub definitions : Environment
    pub term : Expr
    pub ty : Typ
    pub accepted : Loads text shelf definitions term ty
    pub last : Outcome Value
    pub ends : Ends mode definitions term input false steps last
    pub stops : StopsAtReceive told (receives_of last) old new

  -- all of these prints stand there
  abbrev pub AllMade : Bool → List Write → Streams → Streams → Type 0
  AllMade told writes old new = IsTrue told → new ≡ with_writes writes old

  -- what its run leaves where it ends so
  abbrev pub LeavesSo : RunEnd → CommandAnswer → Bool → Streams → Streams → Type 0
  LeavesSo end.Finished a told old new = (a.status ≡ FINISHED) × ((a.line ≡ []) × AllMade told a.writes old new)
  LeavesSo (end.Uncaught e) a told old new = (a.status ≡ UNCAUGHT) × ((a.line ≡ uncaught_line (exn_of e)) × AllMade told a.writes old new)
  LeavesSo (end.Spent n) a told old new = (a.status ≡ SPENT) × ((a.line ≡ spent_line n) × AllMade told a.writes old new)
  LeavesSo end.ReadFault a told old new = StopsBehind told a.writes old new × ((mode : Mode) → StandsReading mode told old new)
  LeavesSo end.WriteFault a told old new = StopsIn told a.writes old new
  LeavesSo end.Memory a told old new = StopsIn told a.writes old new ⊎ StopsBehind told a.writes old new

-- a text has run to this end with what the child had left, where all is told; the console had the first of these bytes, and has the second
pub record HasReceivedBy (told : Bool) (left text : Bytes) (shelf : List Shelved) (steps : ℕ) (end : RunEnd) (old new : Bytes) : Type 0 where
  pub input : Bytes
  pub gets : HasInput told left input
  pub answer : CommandAnswer
  pub means : MeansReceived text shelf steps input answer
  pub runs : answer.runs ≡ true
  pub leaves : LeavesSo text shelf steps input end answer told (streams old []) (streams new [])
