-- A run of the machine in a world: its instructions, and the answers to its pauses.
use Rattle.std.specs.Prelude.{ℕ, Bool, true, false, List, [], ◌∷◌, length, drop}
use Rattle.ac_types.specs.Types.{Bytes}
use Rattle.ac_terms.specs.Terms.{PValue}
use Rattle.ac_terms.specs.Defs.{Environment}
use Rattle.ac_code.specs.Code.{Code}
use Rattle.ac_generate.specs.Generated.{entries_generated, value_generated, value_number}
use Rattle.ac_values.specs.Values.{MValue}
use Rattle.ac_machine_engine.specs.States.{Core, beginning, Ask, AskPrint, AskSend, AskReceive, AskMarshal, AskUnmarshal, AskDone, AskRaised, AskSpent, MState, Run, Paused, Stuck as StuckThere}
use Rattle.ac_machine_engine.specs.Machine.{next}
use Rattle.ac_machine_engine.specs.Resumes.{with_unit, resumed_text, with_block, with_raise}
use Rattle.ac_meaning.specs.Worlds.{Exception, World, end_of_file_exn, no_channel, bad_frame, Made, Read, with_write, with_crossing, with_receive, with_left, grown, fresh}
use Rattle.ac_meaning.specs.Writes.{Print, Send}
use Rattle.ac_outside.specs.Frames.{Frame, Whole, Bad, AtEnd, next_frame}
use Rattle.ac_meaning.specs.Acts.{Outcome, Returned, Raised, Spent, Stuck, State, At, Over, Leads}
use Rattle.ac_meaning.specs.BarePacking.{bare_packed}
use Rattle.ac_meaning.specs.Packing.{Packing, CannotPack, Packs, packing, Landing, Sinks, Lands, landing}
use Rattle.ac_machine_meaning.specs.Stands.{stands}

-- the machine over the code that there is by now, in a world; or the end, with the code then. The definitions are the world's, and the machine counts the applications itself
abbrev pub Running : Type 0
Running = State (Code × MState) (Code × MValue)

abbrev pub on : Code → MState → World → Running
on K s z = At (K, s) z

-- the world with the applications that the machine has made
abbrev pub world_of : Core → World → World
world_of c z = record z { made = c.made }

abbrev pub raised : Exception → Code → Core → World → Running
raised x K c z = on K (with_raise x.number x.text c) z

-- a string is sent where there is a channel
abbrev pub sent : Bool → Bytes → Code → Core → World → Running
sent true s K c z = on K (with_unit c) (with_write (Send s) z)
sent false s K c z = raised no_channel K c z

-- the next frame is received, and that is a receive, whether it comes or not; where there is none, the input stays as it is
abbrev pub frame_received : Frame → Code → Core → World → Running
frame_received (Whole s rest) K c z = on K (resumed_text s c) (with_left rest (with_receive z))
frame_received (Bad n got) K c z = raised bad_frame K c (with_receive z)
frame_received AtEnd K c z = raised end_of_file_exn K c (with_receive z)

-- the string of a packed value is given, and that is a crossing
abbrev pub pack_answered : Packing → Code → Core → World → Running
pack_answered (CannotPack x) K c z = raised x K c z
pack_answered (Packs s) K c z = on K (resumed_text s c) (with_crossing (Made s) z)

-- the code with that of the entries which F has more than E
abbrev pub with_more : Environment → Environment → Code → Code
with_more E F K = entries_generated F (length E) (drop (length E) F) K

-- what lands adds the code of its entries and of its value, whose block is run
abbrev pub arrived : Environment → PValue → Code → Core → World → Running
arrived F v K c z = on (value_generated v (with_more z.environment F K)) (with_block (value_number v (with_more z.environment F K)) c) (grown F z)

abbrev pub landed : Landing → Code → Core → World → Running
landed (Sinks x) K c z = raised x K c z
landed (Lands F v) K c z = arrived F v K c z

-- the machine's value is the newest of its stack
abbrev pub returned : Code → List MValue → World → Outcome (Code × MValue)
returned K [] z = Stuck
returned K (m ∷ ms) z = Returned (K, m) z

-- what follows a pause; a string that is read is a crossing, whether it lands or not
abbrev pub pause_answered : Ask → Code → Core → World → Running
pause_answered (AskPrint s) K c z = on K (with_unit c) (with_write (Print s) z)
pause_answered (AskSend s) K c z = sent z.has_channel s K c z
pause_answered AskReceive K c z = frame_received (next_frame z.input) K c z
pause_answered (AskMarshal mark m T h) K c z = pack_answered (packing z T mark (bare_packed z.environment (stands K m) T)) K c z
pause_answered (AskUnmarshal s T) K c z = landed (landing z.environment T s) K c (with_crossing (Read s) z)
pause_answered AskDone K c z = Over (returned K c.stack (world_of c z))
pause_answered (AskRaised k s) K c z = Over (Raised (record { number = k; text = s }) (world_of c z))
pause_answered AskSpent K c z = Over (Spent (world_of c z))

-- one instruction, or the answer to a pause
abbrev pub step_in : World → Code → MState → Running
step_in z K (Run c) = on K (next z.environment K (Run c)) z
step_in z K (Paused a c) = pause_answered a K c z
step_in z K StuckThere = Over Stuck

abbrev pub machine_step : Running → Running
machine_step (At s z) = step_in z s.0 s.1
machine_step (Over o) = Over o

-- begun at a block over this code and these definitions, with this input, and with or without a channel to send to, it ends so where N applications may be made
abbrev pub RunEnds : Environment → Code → ℕ → Bytes → Bool → ℕ → Outcome (Code × MValue) → Type 0
RunEnds E K block input sends N o = Leads machine_step (on K (Run (beginning block N)) (fresh E input sends)) (Over o)
