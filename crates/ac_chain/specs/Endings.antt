-- How a call ends: what a chain gives where nothing fails, with where what its strings bring comes from, and the cause of each fault with what it leaves.
use Rattle.std.specs.Prelude.{◌≡◌, ◌⊎◌, ℕ, Bool, IsTrue, List, [], ◌∷◌, ◌++◌, Some}
use Rattle.std.specs.List.{list_all}
use Rattle.ac_types.specs.Types.{Bytes}
use Rattle.ac_terms.specs.Terms.{Value}
use Rattle.ac_rules.specs.Views.{Mode}
use Rattle.ac_outside.specs.Outside.{Extends, Rose}
use Rattle.ac_meaning.specs.Acts.{Outcome, crossings_of}
use Rattle.ac_load_rules.specs.Accepting.{Shelved}
use Rattle.ac_colours.specs.Births.{Event}
use Rattle.ac_colours.specs.Chains.{Programs, SeparateRun, HappensIn, EndAs, AreRunsOf, IsChain, HaveBirths}
use Rattle.ac_chain.specs.declared.chained.ChainPart.{ChainPart}
use Rattle.ac_chain.specs.declared.chained.ChainFault.{ChainFault}
use Rattle.ac_chain.specs.declared.chained.ChainFault.TheVariants as fault
use Rattle.ac_chain.specs.Natives.{natives, made_by}
use Rattle.ac_chain.specs.Clashes.{first_program_clash}
use Rattle.ac_chain.specs.ChainTexts.{LoadAs, RejectsFirst}
use Rattle.ac_chain.specs.ChainMeaning.{Runs, AreParts, console_of}

-- a console that is written to: whether it tells its bytes, those before and after the call, and its counts of failed writes
pub record Printed : Type 0 where
  pub told : Bool
  pub old : Bytes
  pub new : Bytes
  pub before : ℕ
  pub after : ℕ

-- a console, by what it has and counts
abbrev pub printed : {Sink : Type 0} → Bool → (Sink → Bytes) → (Sink → ℕ) → Sink → Sink → Printed
printed told bytes faults old new = record { told = told; old = bytes old; new = bytes new; before = faults old; after = faults new }

module _ (texts : List Bytes) (shelf : List Shelved) (N : ℕ) (c : Printed) where
  -- the chain has run: it has these parts, and all that it prints stands there
  pub record HasRun (mode : Mode) (given : List ChainPart) : Type 0 where
    pub runs : Runs mode texts shelf N c.told
    pub parts : AreParts N c.told [] runs.ends given
    pub printed : IsTrue c.told → c.new ≡ c.old ++ console_of runs.ends

  -- the chain was begun: a prefix of what it prints stands there
  pub record HasBegun (mode : Mode) : Type 0 where
    pub runs : Runs mode texts shelf N c.told
    pub printed : IsTrue c.told → Extends c.old c.new (console_of runs.ends)

  -- two entries of its programs clash, and this is the first clash
  pub record ClashesFirst (clash : ChainFault) : Type 0 where
    pub programs : Programs
    pub load : LoadAs texts shelf programs
    pub is_first : first_program_clash 0 programs ≡ Some clash

  -- the cause of a fault, and what it leaves. Want of memory may come in front of the runs too, and then nothing is printed
  abbrev pub IsChainFault : ChainFault → Type 0
  IsChainFault (fault.Refused program refusal) = RejectsFirst texts shelf program refusal.part refusal.kind
  IsChainFault (fault.Clash program1 entry1 program2 entry2) = ClashesFirst (fault.Clash program1 entry1 program2 entry2)
  IsChainFault fault.WriteFault = Rose c.before c.after × ((mode : Mode) → HasBegun mode)
  IsChainFault fault.Memory = (c.new ≡ c.old) ⊎ ((mode : Mode) → HasBegun mode)

-- the faults in front of the runs, at which nothing is written
abbrev pub IsBeforeRuns : ChainFault → Type 0
IsBeforeRuns (fault.Refused program refusal) = Unit {0}
IsBeforeRuns (fault.Clash program1 entry1 program2 entry2) = Unit {0}
IsBeforeRuns fault.WriteFault = ⊥
IsBeforeRuns fault.Memory = ⊥

-- each string that was read is native
abbrev pub AreAllNative : List ChainPart → Type 0
AreAllNative [] = Unit {0}
AreAllNative (part ∷ parts) = IsTrue (list_all (λ (b : Bool). b) part.native) × AreAllNative parts

-- likewise by the ends of programs that run in turn, where these strings were made in front of them
abbrev pub NoneIsForeign : {A : Type 0} → List Bytes → List (Outcome A) → Type 0
NoneIsForeign made [] = Unit {0}
NoneIsForeign made (o ∷ os) = IsTrue (list_all (λ (b : Bool). b) (natives made (crossings_of o))) × NoneIsForeign (made_by made (crossings_of o)) os

-- runs of these programs with these ends, and all that happens in them, a chain where what is sent is told: each seal that unmarshal writes has its birth before
pub record Provenance (N : ℕ) (told : Bool) (ps : Programs) (os : List (Outcome Value)) : Type 0 where
  pub runs : List SeparateRun
  pub are_runs : AreRunsOf N ps runs
  pub they_end : EndAs runs os
  pub all : List Event
  pub happens : HappensIn runs all
  pub chained : IsTrue told → IsChain N ps [] all
  pub births : HaveBirths all

-- so it is with programs that end as these parts say
pub record HasProvenance (N : ℕ) (told : Bool) (ps : Programs) (parts : List ChainPart) : Type 0 where
  pub ends : List (Outcome Value)
  pub are_parts : AreParts N told [] ends parts
  pub provenance : Provenance N told ps ends
