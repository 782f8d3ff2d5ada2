-- A run on its way: what an answer to the machine makes of it, and what one turn does.
use Rattle.std.specs.Prelude.{◌≡◌, ◌⊎◌, ◌≤◌, ℕ, Bool, false, List, ◌∷◌, ◌++◌, length, Some, None, Option, IsTrue}
use Rattle.ac_types.specs.Types.{Bytes}
use Rattle.ac_types.specs.Limits.{longest_frame}
use Rattle.ac_terms.specs.Defs.{Environment}
use Rattle.ac_code.specs.Code.{Code}
use Rattle.ac_rules.specs.Coherent.{IsCoherent}
use Rattle.ac_outside.specs.Frames.{Frame, Whole, Bad, AtEnd, next_frame}
use Rattle.ac_values.specs.Values.{MValue}
use Rattle.ac_machine_engine.specs.States.{Core, MState}
use Rattle.ac_machine_engine.specs.Resumes as standing
use Rattle.ac_machine_engine.specs.Resumes.{resumed, resumed_text, with_raise}
use Rattle.ac_machine_engine.specs.Seen.{MachineSeen, standing}
use Rattle.ac_meaning.specs.Writes.{Write, string_of}
use Rattle.ac_meaning.specs.Worlds.{Exception, Trace, World, end_of_file_exn, bad_frame}
use Rattle.ac_meaning.specs.Acts.{Outcome, Stuck, Over, Leads, writes_of, receives_of}
use Rattle.ac_machine_proof.specs.Running.{on, machine_step}
use Rattle.ac_run.specs.Sessions.{Session, environment, Streams, with_writes, StopsIn, StopsBehind, left_of, LeftAtReceive, LeftAtWrite, IsEnd, Leaves}
use Rattle.std.specs.List.{All}
use Rattle.ac_run.specs.Inputs.{behind_receives}
use Rattle.ac_run.specs.Moments.{Moment, AtReceive}
use Rattle.ac_run.specs.Journals.{read_journal, noted, BeginsWith}
use Rattle.ac_run.specs.inner.Inboxes.{MayCome, IsLeft}
use Rattle.ac_run.specs.declared.end.RunEnd.{RunEnd}
use Rattle.ac_run.specs.declared.end.RunEnd.TheVariants as end
use Rattle.ac_run.specs.declared.inbox.Inbox.{Inbox}
use Rattle.ac_run.specs.declared.journal.Journal.{Journal}

-- the machine has got this answer
abbrev pub HasGot : (Core → MState) → MachineSeen → MachineSeen → Type 0
HasGot answer m n = (n.lost ≡ false) × (standing n ≡ resumed answer (standing m))

-- it has got it, and these writes were made; or a fault came in one of them, or want of memory anywhere
abbrev pub Served : Bool → (Core → MState) → List Write → MachineSeen → MachineSeen → Streams → Streams → Option RunEnd → Type 0
Served told answer writes m n old new None = HasGot answer m n × (IsTrue told → new ≡ with_writes writes old)
Served told answer writes m n old new (Some end.Finished) = ⊥
Served told answer writes m n old new (Some (end.Uncaught e)) = ⊥
Served told answer writes m n old new (Some (end.Spent steps)) = ⊥
Served told answer writes m n old new (Some end.ReadFault) = ⊥
Served told answer writes m n old new (Some end.WriteFault) = StopsIn told writes old new
Served told answer writes m n old new (Some end.Memory) = StopsIn told writes old new ⊎ StopsBehind told writes old new

abbrev pub HasRaised : Exception → MachineSeen → MachineSeen → Type 0
HasRaised x m n = HasGot (with_raise x.number x.text) m n

-- the machine has got the frame that comes next, or the exception of why there is none
abbrev pub HasGotFrame : Bool → Inbox → Bytes → Bytes → MachineSeen → MachineSeen → Frame → Type 0
HasGotFrame told inbox rest input m n (Whole s left) = HasGot (resumed_text s) m n × IsLeft told inbox rest left
HasGotFrame told inbox rest input m n (Bad k got) = HasRaised bad_frame m n × IsLeft told inbox rest input
HasGotFrame told inbox rest input m n AtEnd = HasRaised end_of_file_exn m n × IsLeft told inbox rest input

-- it has got it; or a read has failed and it stands as it did, or memory ran out
abbrev pub Received : Bool → Inbox → Bytes → Bytes → MachineSeen → MachineSeen → Option RunEnd → Type 0
Received told inbox rest input m n None = HasGotFrame told inbox rest input m n (next_frame input)
Received told inbox rest input m n (Some end.Finished) = ⊥
Received told inbox rest input m n (Some (end.Uncaught e)) = ⊥
Received told inbox rest input m n (Some (end.Spent steps)) = ⊥
Received told inbox rest input m n (Some end.ReadFault) = (n ≡ m) × (IsTrue told → (taken : Bytes) × (input ≡ taken ++ rest))
Received told inbox rest input m n (Some end.WriteFault) = ⊥
Received told inbox rest input m n (Some end.Memory) = Unit {0}

-- each of these writes has a string that a frame holds
abbrev pub AreShort : List Write → Type 0
AreShort writes = (before after : List Write) (w : Write) → writes ≡ before ++ w ∷ after → length (string_of w) ≤ longest_frame

-- where a run stands: its definitions, its code and its machine, what it has left to read and has written, and its journal
pub record Point : Type 0 where
  pub environment : Environment
  pub code : Code
  pub machine : MachineSeen
  pub inbox : Inbox
  pub left : Bytes
  pub streams : Streams
  pub journal : Journal

abbrev pub point : Environment → Code → MachineSeen → Inbox → Bytes → Streams → Journal → Point
point E K m inbox left now journal = record { environment = E; code = K; machine = m; inbox = inbox; left = left; streams = now; journal = journal }

-- at an end without a fault what comes next is what the reduction has left; at a fault what is left of the first input at a receive, or at a write
abbrev pub LeavesNext : Bool → Inbox → Bytes → Bytes → RunEnd → Outcome (Code × MValue) → Type 0
LeavesNext told inbox rest first end.Finished o = IsLeft told inbox rest (left_of o)
LeavesNext told inbox rest first (end.Uncaught e) o = IsLeft told inbox rest (left_of o)
LeavesNext told inbox rest first (end.Spent steps) o = IsLeft told inbox rest (left_of o)
LeavesNext told inbox rest first end.ReadFault o = IsTrue told → LeftAtReceive (receives_of o) first rest
LeavesNext told inbox rest first end.WriteFault o = LeftAtWrite (writes_of o) (receives_of o) first (IsLeft told inbox rest)
LeavesNext told inbox rest first end.Memory o = Unit {0}

module _ (sends told : Bool) where
  -- over coherent definitions a run is on its way to this end, where it isn't stuck and all writes are short, and this is what comes; where that is told, the writes since the start were made; of the first input the receives so far have taken their frames; what crossed stands in the journal, if it is kept
  pub record OnItsWay (p : Point) (rest : Bytes) (start : Streams) (first : Bytes) (o : Outcome (Code × MValue)) : Type 0 where
    pub able : p.machine.lost ≡ false
    pub coherent : IsCoherent p.environment
    pub state : MState
    pub world : World
    pub defines : world.environment ≡ p.environment
    pub stands : standing p.machine ≡ standing.At state
    pub ends : Leads machine_step (on p.code state world) (Over o)
    pub not_stuck : o ≡ Stuck → ⊥
    pub short : AreShort (writes_of o)
    pub input : IsLeft told p.inbox rest world.input
    pub channel : world.has_channel ≡ sends
    pub so_far : IsTrue told → p.streams ≡ with_writes world.writes start
    pub taken : world.input ≡ behind_receives world.receives first
    pub in_front : All (λ (t : Trace). BeginsWith t.writes world.writes) world.receives
    pub crossed : read_journal p.journal.crossings ≡ noted p.journal.keeps world.crossings

  -- whatever comes, it is on the way to an end
  abbrev pub CanRun : Point → Type 0
  CanRun p = (rest : Bytes) → MayCome p.inbox told p.left rest → (o : Outcome (Code × MValue)) × (start : Streams) × (first : Bytes) × OnItsWay p rest start first o

  -- each session with these definitions, this budget, this machine and this journal has ended so, and leaves what it says
  abbrev pub EndsSo : ℕ → Point → Streams → RunEnd → Outcome (Code × MValue) → Type 0
  EndsSo N p start r o = (s : Session) → environment s ≡ p.environment → s.steps ≡ N → s.machine ≡ p.machine → s.keeps ≡ p.journal.keeps → s.journal ≡ p.journal.crossings → IsEnd r o s × Leaves r told o s start p.streams

  -- it is on its way, or has ended
  abbrev pub Turned : ℕ → Point → Bytes → Streams → Bytes → Outcome (Code × MValue) → Option RunEnd → Type 0
  Turned N p rest start first o None = OnItsWay p rest start first o
  Turned N p rest start first o (Some r) = EndsSo N p start r o × LeavesNext told p.inbox rest first r o

  -- whatever comes later, something comes now with which a run that is on its way gets from the first point to the second, or ends there, and stands at a receive at each of these moments
  abbrev pub Goes : ℕ → Point → Point → Option RunEnd → List Moment → Type 0
  Goes N p q r moments = (rest : Bytes) → MayCome q.inbox told q.left rest → (before : Bytes) × MayCome p.inbox told p.left before
      × ((start : Streams) (first : Bytes) (o : Outcome (Code × MValue)) → OnItsWay p before start first o → Turned N q rest start first o r × All (AtReceive told (receives_of o) first start) moments)
