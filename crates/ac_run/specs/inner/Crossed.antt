-- How a machine is answered that waits to marshal or to unmarshal.
use Rattle.std.specs.Prelude.{◌≡◌, Bool, [], ◌∷◌, Option, None}
use Rattle.ac_types.specs.Types.{Bytes, Typ}
use Rattle.ac_terms.specs.Defs.{Environment}
use Rattle.ac_code.specs.Code.{Code}
use Rattle.ac_generate.specs.Generated.{value_generated, value_number}
use Rattle.ac_rules.specs.Faults.{Marshalled, NoString, AString, marshalled}
use Rattle.ac_values.specs.Values.{MValue}
use Rattle.ac_machine_engine.specs.States.{Core, MState}
use Rattle.ac_machine_engine.specs.Resumes.{resumed_text, with_block, with_raise}
use Rattle.ac_machine_engine.specs.Seen.{MachineSeen}
use Rattle.ac_meaning.specs.Worlds.{Made}
use Rattle.ac_meaning.specs.Packing.{of_fault, Landing, Sinks, Lands}
use Rattle.ac_meaning.specs.BarePacking.{bare_packed}
use Rattle.ac_machine_proof.specs.Running.{with_more}
use Rattle.ac_machine_meaning.specs.Stands.{stands}
use Rattle.ac_run.specs.Sessions.{Streams}
use Rattle.ac_run.specs.inner.Notes.{Notes}
use Rattle.ac_run.specs.inner.Turns.{Served}
use Rattle.ac_run.specs.declared.end.RunEnd.{RunEnd}
use Rattle.ac_run.specs.declared.journal.Journal.{Journal}

-- the string of a machine's value at a type, as cut by the mark of this name, or why there is none
abbrev pub string_held : Environment → Code → Bytes → MValue → Typ → Marshalled
string_held E K mark v T = marshalled E mark T (bare_packed E (stands K v) T)

-- the machine has got this answer, or memory ran out; nothing was written
abbrev pub Answered : (Core → MState) → MachineSeen → MachineSeen → Option RunEnd → Type 0
Answered gives m n r = (told : Bool) (now : Streams) → Served told gives [] m n now now r

-- the answer is the string, which was noted, or the exception of why there is none
abbrev pub Marshals : Marshalled → MachineSeen → MachineSeen → Journal → Journal → Option RunEnd → Type 0
Marshals (AString s) m n old new r = Answered (resumed_text s) m n r × Notes (Made s ∷ []) old new r
Marshals (NoString f) m n old new r = Answered (with_raise (of_fault f).number (of_fault f).text) m n r × (new ≡ old)

-- where the run goes on, definitions and code are these
abbrev pub Becomes : Environment → Code → Environment → Code → Option RunEnd → Type 0
Becomes E K F L r = r ≡ None → (F ≡ E) × (L ≡ K)

-- the answer is the block of what has landed, which was added, or the exception of why nothing has
abbrev pub Unmarshals : Landing → Environment → Code → Environment → Code → MachineSeen → MachineSeen → Option RunEnd → Type 0
Unmarshals (Lands G v) E K F L m n r = Becomes G (value_generated v (with_more E G K)) F L r × Answered (with_block (value_number v (with_more E G K))) m n r
Unmarshals (Sinks x) E K F L m n r = Becomes E K F L r × Answered (with_raise x.number x.text) m n r
