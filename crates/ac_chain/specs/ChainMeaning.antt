-- What a chain of texts means: its programs run one after the other, and each reads what the one before it sent.
use Rattle.std.specs.Prelude.{◌≡◌, ℕ, Bool, true, IsTrue, List, [], ◌∷◌, None, flat_map}
use Rattle.ac_types.specs.Types.{Bytes}
use Rattle.ac_terms.specs.Terms.{Expr, Value}
use Rattle.ac_terms.specs.Defs.{Environment}
use Rattle.ac_rules.specs.Views.{Mode}
use Rattle.ac_meaning.specs.Writes.{Console, Channel, written}
use Rattle.ac_meaning.specs.ReadExn.{exn_of}
use Rattle.ac_meaning.specs.Acts.{Outcome, Returned, Raised, Spent, writes_of, crossings_of}
use Rattle.ac_meaning.specs.Reduction.{Ends}
use Rattle.ac_load_rules.specs.Accepting.{Shelved}
use Rattle.ac_run.specs.Sessions.{HasInput}
use Rattle.ac_run.specs.declared.end.RunEnd.{RunEnd}
use Rattle.ac_run.specs.declared.end.RunEnd.TheVariants as end
use Rattle.ac_colours.specs.Chains.{Programs}
use Rattle.ac_chain.specs.declared.chained.ChainPart.{ChainPart}
use Rattle.ac_chain.specs.Natives.{natives, made_by}
use Rattle.ac_chain.specs.Clashes.{first_program_clash}
use Rattle.ac_chain.specs.ChainTexts.{LoadAs}

-- a program that may make N applications ends so, where it has this left to read; where that isn't told, it reads something
pub record RunsOn (mode : Mode) (N : ℕ) (told : Bool) (p : Environment × Expr) (left : Bytes) (o : Outcome Value) : Type 0 where
  pub input : Bytes
  pub is_input : HasInput told left input
  pub ends : Ends mode p.0 p.1 input true N o

-- programs run one after the other: the first has this left to read, and each later one what the one before it sent
abbrev pub RunInTurn : Mode → ℕ → Bool → Programs → Bytes → List (Outcome Value) → Type 0
RunInTurn mode N told [] left [] = Unit {0}
RunInTurn mode N told (p ∷ ps) left (o ∷ os) = RunsOn mode N told p left o × RunInTurn mode N told ps (written Channel (writes_of o)) os
RunInTurn mode N told [] left (o ∷ os) = ⊥
RunInTurn mode N told (p ∷ ps) left [] = ⊥

-- what they print
abbrev pub console_of : List (Outcome Value) → Bytes
console_of ends = flat_map (λ (o : Outcome Value). written Console (writes_of o)) ends

-- the end of a run, as its reduction has ended
abbrev pub EndsAs : ℕ → RunEnd → Outcome Value → Type 0
EndsAs N end.Finished (Returned v z) = Unit {0}
EndsAs N (end.Uncaught e) (Raised x z) = exn_of e ≡ x
EndsAs N (end.Spent steps) (Spent z) = steps ≡ N
EndsAs N end o = ⊥

-- a part of a chain in which these strings were made in front of it: its end, what it sent where that is told, and which of the strings that it read are native
pub record IsChainPart (N : ℕ) (told : Bool) (made : List Bytes) (o : Outcome Value) (part : ChainPart) : Type 0 where
  pub ends : EndsAs N part.end o
  pub sent : IsTrue told → part.sent.0 ≡ written Channel (writes_of o)
  pub native : part.native ≡ natives made (crossings_of o)

-- one part for each end, in order
abbrev pub AreParts : ℕ → Bool → List Bytes → List (Outcome Value) → List ChainPart → Type 0
AreParts N told made [] [] = Unit {0}
AreParts N told made (o ∷ os) (part ∷ parts) = IsChainPart N told made o part × AreParts N told (made_by made (crossings_of o)) os parts
AreParts N told made [] (part ∷ parts) = ⊥
AreParts N told made (o ∷ os) [] = ⊥

-- a chain runs: all its texts load, no two entries of two programs clash, and the programs run in turn; where that is told, the first has nothing to read
pub record Runs (mode : Mode) (texts : List Bytes) (shelf : List Shelved) (N : ℕ) (told : Bool) : Type 0 where
  pub programs : Programs
  pub load : LoadAs texts shelf programs
  pub apart : first_program_clash 0 programs ≡ None
  pub ends : List (Outcome Value)
  pub run : RunInTurn mode N told programs [] ends
