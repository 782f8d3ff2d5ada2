-- Programs that are loaded, and what the run of one of them leaves.
use Rattle.std.specs.Prelude.{◌≡◌, ℕ, ◌<◌, ◌^◌, Bool, IsTrue, List, [], ◌∷◌, ◌++◌, length, Result, Ok, Err}
use Rattle.ac_types.specs.Types.{Bytes}
use Rattle.ac_types.specs.ReadTypes.{typ_of}
use Rattle.ac_terms.specs.Read.{environment_of, expr_of}
use Rattle.ac_terms.specs.Terms.{Expr, Value}
use Rattle.ac_terms.specs.Defs.{Environment}
use Rattle.ac_rules.specs.Views.{Mode}
use Rattle.ac_rules.specs.declared.loaded.Loaded.{Loaded}
use Rattle.ac_outside.specs.Outside.{Extends}
use Rattle.ac_meaning.specs.Writes.{Console, written}
use Rattle.ac_meaning.specs.Acts.{Outcome, writes_of, crossings_of}
use Rattle.ac_meaning.specs.Loads.{IsLoaded}
use Rattle.ac_load_rules.specs.Accepting.{Shelved}
use Rattle.ac_load.specs.declared.kind.Kind.{Kind}
use Rattle.ac_load.specs.declared.kind.Kind.TheVariants as kind
use Rattle.ac_load.specs.declared.kind.Refusal.{Refusal}
use Rattle.ac_run.specs.Sessions.{Session, Streams, streams, HasInput, RunsTo}
use Rattle.ac_run.specs.declared.end.RunEnd.{RunEnd}
use Rattle.ac_run.specs.declared.end.RunEnd.TheVariants as end
use Rattle.ac_colours.specs.Chains.{Programs}
use Rattle.ac_chain.specs.declared.chained.ChainPart.{ChainPart}
use Rattle.ac_chain.specs.declared.chained.ChainFault.{ChainFault}
use Rattle.ac_chain.specs.declared.chained.ChainFault.TheVariants as fault
use Rattle.ac_chain.specs.ChainTexts.{RejectsFirst}
use Rattle.ac_chain.specs.ChainMeaning.{RunsOn, RunInTurn, IsChainPart, AreParts, console_of}
use Rattle.ac_chain.specs.Natives.{made_by}
use Rattle.ac_chain.specs.inner.Made.{Strings, Has, NativeBy, MadeBy}

-- each program has fewer than 2^32 entries
abbrev pub AreFew : List Loaded → Type 0
AreFew [] = Unit {0}
AreFew (l ∷ ls) = (length l.env.entries < 2 ^ 32) × AreFew ls

-- each is ready to run
abbrev pub AreLoaded : List Loaded → Type 0
AreLoaded [] = Unit {0}
AreLoaded (l ∷ ls) = IsLoaded (environment_of l.env) (expr_of l.main) (typ_of l.ty) × AreLoaded ls

-- the fault of a refusal
abbrev pub refused_as : Kind → ChainFault → ChainFault
refused_as kind.Memory f = fault.Memory
refused_as kind f = f

abbrev pub refused : ℕ → Refusal → ChainFault
refused program refusal = refused_as refusal.kind (fault.Refused program refusal)

-- what it says: want of memory says nothing
abbrev pub IsRefusal : List Bytes → List Shelved → ChainFault → Type 0
IsRefusal texts shelf (fault.Refused program refusal) = RejectsFirst texts shelf program refusal.part refusal.kind
IsRefusal texts shelf fault.Memory = Unit {0}
IsRefusal texts shelf f = ⊥

-- the faults of runs
abbrev pub IsRunFault : ChainFault → Type 0
IsRunFault fault.WriteFault = Unit {0}
IsRunFault fault.Memory = Unit {0}
IsRunFault f = ⊥

-- an end, or the fault of a run that hasn't come to its end; no read fails
abbrev pub whole_end : RunEnd → Result RunEnd ChainFault
whole_end end.ReadFault = Err fault.Memory
whole_end end.WriteFault = Err fault.WriteFault
whole_end end.Memory = Err fault.Memory
whole_end e = Ok e

-- a session has run to this end, with this left to read
pub record Ran (told : Bool) (s t : Session) (left : Bytes) (e : RunEnd) (old new : Streams) : Type 0 where
  pub input : Bytes
  pub is_input : HasInput told left input
  pub runs : RunsTo told s t input e old new
  pub same : (t.steps ≡ s.steps) × (t.keeps ≡ s.keeps)

-- it has come to the end of this part
pub record RanTo (told : Bool) (s t : Session) (left : Bytes) (given : ChainPart) (before after : Strings) (old new : Bytes) : Type 0 where
  pub end : RunEnd
  pub ran : Ran told s t left end (streams old []) (streams new given.sent.0)
  pub whole : whole_end end ≡ Ok given.end
  pub native : NativeBy before t.journal given.native
  pub made : MadeBy before t.journal after

-- it has run, to some end
pub record RanSomewhere (told : Bool) (s t : Session) (left old new : Bytes) : Type 0 where
  pub end : RunEnd
  pub sent : Bytes
  pub ran : Ran told s t left end (streams old []) (streams new sent)

module _ (mode : Mode) (N : ℕ) (told : Bool) (p : Environment × Expr) (left : Bytes) where
  -- a program has run to its end, in front of which and behind which these strings were made and this was printed
  pub record HasRunOn (given : ChainPart) (before after : Strings) (old new : Bytes) : Type 0 where
    pub last : Outcome Value
    pub runs : RunsOn mode N told p left last
    pub part : (earlier : List Bytes) → Has before earlier → IsChainPart N told earlier last given
    pub made : (earlier : List Bytes) → Has before earlier → Has after (made_by earlier (crossings_of last))
    pub printed : IsTrue told → new ≡ old ++ written Console (writes_of last)

  -- it hasn't, and of what it prints a prefix was printed
  pub record HasStoppedOn (old new : Bytes) : Type 0 where
    pub last : Outcome Value
    pub runs : RunsOn mode N told p left last
    pub printed : IsTrue told → Extends old new (written Console (writes_of last))

module _ (mode : Mode) (N : ℕ) (told : Bool) (ps : Programs) where
  -- programs have run one after the other, and have these parts
  pub record AllRun (parts : List ChainPart) (old new : Bytes) : Type 0 where
    pub ends : List (Outcome Value)
    pub run : RunInTurn mode N told ps [] ends
    pub are_parts : AreParts N told [] ends parts
    pub printed : IsTrue told → new ≡ old ++ console_of ends

  -- they haven't all
  pub record AllStopped (old new : Bytes) : Type 0 where
    pub ends : List (Outcome Value)
    pub run : RunInTurn mode N told ps [] ends
    pub printed : IsTrue told → Extends old new (console_of ends)

-- the frames that the last program has sent, and these where none has run
abbrev pub last_sent : Bytes → List ChainPart → Bytes
last_sent before [] = before
last_sent before (part ∷ parts) = last_sent part.sent.0 parts
