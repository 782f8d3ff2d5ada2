-- Sessions, how they end, and what they leave on console and channel.
use Rattle.std.specs.Prelude.{◌≡◌, ◌⊎◌, ℕ, Bool, false, IsTrue, List, [], ◌∷◌, ◌++◌, drop, Option}
use Rattle.ac_types.specs.Types.{Bytes}
use Rattle.ac_terms.specs.Terms.{Expr, Value}
use Rattle.ac_terms.specs.Defs.{Environment}
use Rattle.ac_terms.specs.Read.{expr_of, environment_of}
use Rattle.ac_outside.specs.Outside.{Extends}
use Rattle.ac_outside.specs.Frames.{Bad, frame_of, next_frame}
use Rattle.ac_rules.specs.Views.{Mode}
use Rattle.ac_rules.specs.declared.loaded.Loaded.{Loaded}
use Rattle.ac_machine_engine.specs.States.{Core, Ask, AskDone, AskRaised, AskSpent, Paused}
use Rattle.ac_machine_engine.specs.Resumes as standing
use Rattle.ac_machine_engine.specs.Seen.{MachineSeen, standing}
use Rattle.ac_meaning.specs.Writes.{Write, Print, Send, Console, Channel, written}
use Rattle.ac_meaning.specs.Worlds.{Crossing, Trace, World}
use Rattle.ac_meaning.specs.ReadExn.{exn_of}
use Rattle.ac_meaning.specs.Acts.{Outcome, Returned, Raised, Spent, Stuck, writes_of, crossings_of, before_writes_of, receives_of}
use Rattle.ac_meaning.specs.Reduction.{Ends}
use Rattle.std.specs.List.{All}
use Rattle.ac_run.specs.Inputs.{behind_receives}
use Rattle.ac_run.specs.Journals.{read_journal, noted, BeginsWith}
use Rattle.ac_run.specs.declared.crossing.Crossing as code
use Rattle.ac_run.specs.declared.end.RunEnd.{RunEnd}
use Rattle.ac_run.specs.declared.end.RunEnd.TheVariants as end

-- a session: a program, how many applications it may make, whether it has a channel to send to, its machine, how its run has ended, and whether it keeps a journal, with what stands in it
pub record Session : Type 0 where
  pub program : Loaded
  pub steps : ℕ
  pub sends : Bool
  pub machine : MachineSeen
  pub end : Option RunEnd
  pub keeps : Bool
  pub journal : List code.Crossing

abbrev pub environment : Session → Environment
environment s = environment_of s.program.env

abbrev pub main : Session → Expr
main s = expr_of s.program.main

-- the reduction of a session's program with this input
abbrev pub ProgramEnds : Mode → Session → Bytes → Outcome Value → Type 0
ProgramEnds mode s input o = Ends mode (environment s) (main s) input s.sends s.steps o

-- a program gets this input: what its world has left to read, where that is told
abbrev pub HasInput : Bool → Bytes → Bytes → Type 0
HasInput told left input = IsTrue told → left ≡ input

-- what the reduction has left to read, by its end
abbrev pub left_of : {A : Type 0} → Outcome A → Bytes
left_of (Returned v z) = z.input
left_of (Raised x z) = z.input
left_of (Spent z) = z.input
left_of Stuck = []

-- what the reduction has left begins with bytes that are no frame, and behind those that say so this is left of it
abbrev pub NoFrame : Bytes → Bytes → Type 0
NoFrame input left = (n : ℕ) × (got : ℕ) × (next_frame input ≡ Bad n got) × (left ≡ drop got input)

-- a session's journal has these crossings, if it keeps one
abbrev pub HasNoted : Session → List Crossing → Type 0
HasNoted s crossings = read_journal s.journal ≡ noted s.keeps crossings

-- a session's machine has stopped for this reason; definitions and applications are those of this world, and so are the crossings in its journal, if it keeps one
pub record HasStopped (s : Session) (why : Ask) (z : World) : Type 0 where
  pub able : s.machine.lost ≡ false
  pub core : Core
  pub stands : standing s.machine ≡ standing.At (Paused why core)
  pub counted : core.made ≡ z.made
  pub defines : environment s ≡ z.environment
  pub noted : HasNoted s z.crossings

-- a session's machine waits for a frame
pub record WaitsForFrame (s : Session) : Type 0 where
  pub able : s.machine.lost ≡ false
  pub core : Core
  pub stands : standing s.machine ≡ standing.Waits standing.Receiving core

-- a session ends so where the reduction ends so, and its machine has stopped accordingly; a fault and want of memory may come on every way
abbrev pub IsEnd : {A : Type 0} → RunEnd → Outcome A → Session → Type 0
IsEnd end.Finished (Returned v z) s = HasStopped s AskDone z
IsEnd end.Finished (Raised x z) s = ⊥
IsEnd end.Finished (Spent z) s = ⊥
IsEnd end.Finished Stuck s = ⊥
IsEnd (end.Uncaught e) (Returned v z) s = ⊥
IsEnd (end.Uncaught e) (Raised x z) s = (exn_of e ≡ x) × HasStopped s (AskRaised x.number x.text) z
IsEnd (end.Uncaught e) (Spent z) s = ⊥
IsEnd (end.Uncaught e) Stuck s = ⊥
IsEnd (end.Spent steps) (Returned v z) s = ⊥
IsEnd (end.Spent steps) (Raised x z) s = ⊥
IsEnd (end.Spent steps) (Spent z) s = (steps ≡ s.steps) × HasStopped s AskSpent z
IsEnd (end.Spent steps) Stuck s = ⊥
IsEnd end.ReadFault o s = WaitsForFrame s
IsEnd end.WriteFault o s = Unit {0}
IsEnd end.Memory o s = Unit {0}

-- this is left, or what begins so is no frame, and of it what is behind the bytes that say so
abbrev pub IsAllLeft : Bytes → Bytes → Type 0
IsAllLeft left stands = (left ≡ stands) ⊎ NoFrame stands left

-- at one of these receives this is left behind some bytes of what stands behind the frames of the receives before it
pub record LeftAtReceive (all : List Trace) (input left : Bytes) : Type 0 where
  pub before : List Trace
  pub receive : Trace
  pub after : List Trace
  pub order : all ≡ before ++ receive ∷ after
  pub taken : Bytes
  pub is : behind_receives before input ≡ taken ++ left

-- at one of these writes this holds of what stands behind the frames of the receives in front of it; the receives behind it come after that write
pub record LeftAtWrite (all : List Write) (receives : List Trace) (input : Bytes) (holds : Bytes → Type 0) : Type 0 where
  pub before : List Write
  pub write : Write
  pub after : List Write
  pub order : all ≡ before ++ write ∷ after
  pub earlier : List Trace
  pub later : List Trace
  pub come_to : receives ≡ earlier ++ later
  pub in_front : All (λ (t : Trace). BeginsWith t.writes before) earlier
  pub behind : All (λ (t : Trace). BeginsWith (before ++ write ∷ []) t.writes) later
  pub is : holds (behind_receives earlier input)

-- of its input a world has left: behind an end without a fault what the reduction has left; after a failed read what is behind the frames of the receives before one, but for some bytes; after a failed write all that is behind the frames of the receives in front of it
abbrev pub HasLeft : {A : Type 0} → RunEnd → Outcome A → Bytes → Bytes → Type 0
HasLeft end.Finished o input left = IsAllLeft left (left_of o)
HasLeft (end.Uncaught e) o input left = IsAllLeft left (left_of o)
HasLeft (end.Spent steps) o input left = IsAllLeft left (left_of o)
HasLeft end.ReadFault o input left = LeftAtReceive (receives_of o) input left
HasLeft end.WriteFault o input left = LeftAtWrite (writes_of o) (receives_of o) input (IsAllLeft left)
HasLeft end.Memory o input left = Unit {0}

-- console and channel of a world
pub record Streams : Type 0 where
  pub console : Bytes
  pub channel : Bytes

abbrev pub streams : Bytes → Bytes → Streams
streams console channel = record { console = console; channel = channel }

-- with these writes added
abbrev pub with_writes : List Write → Streams → Streams
with_writes writes s = streams (s.console ++ written Console writes) (s.channel ++ written Channel writes)

-- of this write a prefix was added to its stream, and nothing to the other
abbrev pub Begun : Write → Streams → Streams → Type 0
Begun (Print s) old new = Extends old.console new.console s × (new.channel ≡ old.channel)
Begun (Send s) old new = (new.console ≡ old.console) × Extends old.channel new.channel (frame_of s)

-- of these writes, made in their order, one was begun and none came after it; where the streams are told, they say so
pub record StopsIn (told : Bool) (all : List Write) (old new : Streams) : Type 0 where
  pub before : List Write
  pub write : Write
  pub after : List Write
  pub order : all ≡ before ++ write ∷ after
  pub begun : IsTrue told → Begun write (with_writes before old) new

-- some of them were made, and then none
pub record StopsBehind (told : Bool) (all : List Write) (old new : Streams) : Type 0 where
  pub before : List Write
  pub after : List Write
  pub order : all ≡ before ++ after
  pub made : IsTrue told → new ≡ with_writes before old

-- the run stopped in one of these writes, and one of these traces is of what had been done in front of it
pub record StopsAtWrite (told : Bool) (all : List Write) (traces : List Trace) (old new : Streams) : Type 0 where
  pub stops : StopsIn told all old new
  pub earlier : List Trace
  pub trace : Trace
  pub later : List Trace
  pub order : traces ≡ earlier ++ trace ∷ later
  pub so_far : trace.writes ≡ stops.before

-- the run came to one of these receives: what it had written in front of it was written, where the streams are told, and nothing else
pub record StopsAtReceive (told : Bool) (all : List Trace) (old new : Streams) : Type 0 where
  pub before : List Trace
  pub receive : Trace
  pub after : List Trace
  pub order : all ≡ before ++ receive ∷ after
  pub made : IsTrue told → new ≡ with_writes receive.writes old

-- a session's journal has the first of the crossings of this end, if it keeps one
abbrev pub HasNotedSome : {A : Type 0} → Session → Outcome A → Type 0
HasNotedSome s o = BeginsWith (read_journal s.journal) (noted s.keeps (crossings_of o))

-- what a session leaves of what its program does: all writes; after a fault of reading those in front of one of its receives; after a fault of writing those before one write and a prefix of it; after either the crossings in front of that in its journal, and the definitions there; and after want of memory, which may come anywhere, some writes, of one more a prefix, and the first of the crossings
abbrev pub Leaves : {A : Type 0} → RunEnd → Bool → Outcome A → Session → Streams → Streams → Type 0
Leaves end.Finished told o s old new = IsTrue told → new ≡ with_writes (writes_of o) old
Leaves (end.Uncaught e) told o s old new = IsTrue told → new ≡ with_writes (writes_of o) old
Leaves (end.Spent steps) told o s old new = IsTrue told → new ≡ with_writes (writes_of o) old
Leaves end.ReadFault told o s old new = (stops : StopsAtReceive told (receives_of o) old new) × (HasNoted s stops.receive.crossings × (environment s ≡ stops.receive.environment))
Leaves end.WriteFault told o s old new = (stops : StopsAtWrite told (writes_of o) (before_writes_of o) old new) × (HasNoted s stops.trace.crossings × (environment s ≡ stops.trace.environment))
Leaves end.Memory told o s old new = (StopsIn told (writes_of o) old new ⊎ StopsBehind told (writes_of o) old new) × HasNotedSome s o

-- with this input a session ends so, as the reduction in each mode does, and leaves what it says
pub record RunsTo (told : Bool) (s t : Session) (input : Bytes) (r : RunEnd) (old new : Streams) : Type 0 where
  pub ends : (mode : Mode) (o : Outcome Value) → ProgramEnds mode s input o → IsEnd r o t × Leaves r told o t old new
