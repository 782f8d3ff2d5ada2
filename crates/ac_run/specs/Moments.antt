-- When a run reads, and what it has written and has left to read then.
use Rattle.std.specs.Prelude.{◌≡◌, Bool, IsTrue, List, [], ◌∷◌, ◌++◌, map}
use Rattle.ac_types.specs.Types.{Bytes}
use Rattle.ac_outside.specs.declared.traits.Source.{Ghosts as SourceOf}
use Rattle.ac_meaning.specs.Worlds.{Trace}
use Rattle.ac_run.specs.Inputs.{behind_receives}
use Rattle.ac_run.specs.Sessions.{Streams, streams, with_writes}

-- what a world has at a moment: what its input has left, and what console and channel have
pub record Moment : Type 0 where
  pub left : Bytes
  pub streams : Streams

abbrev pub moment : Bytes → Streams → Moment
moment left now = record { left = left; streams = now }

-- nothing was taken from a source, where it is told
abbrev pub Quiet : {S : Type 0} → SourceOf S → S → S → Type 0
Quiet source a b = IsTrue source.told → source.left b ≡ source.left a

-- a source was read at these moments, one after another, and nothing was taken from it but in these reads
abbrev pub ReadAt : {S : Type 0} → SourceOf S → List S → S → S → Type 0
ReadAt source [] a b = Quiet source a b
ReadAt {S} source (here ∷ moments) a c = Quiet source a here × ((b : S) × source.passes here b × ReadAt source moments b c)

-- at this moment a run stands at one of these receives: all that is to be written in front of that was written, and nothing else, and its input has lost the frames of the receives before it, and nothing else
pub record AtReceive (told : Bool) (all : List Trace) (input : Bytes) (old : Streams) (m : Moment) : Type 0 where
  pub before : List Trace
  pub receive : Trace
  pub after : List Trace
  pub order : all ≡ before ++ receive ∷ after
  pub written : IsTrue told → m.streams ≡ with_writes receive.writes old
  pub lost : IsTrue told → m.left ≡ behind_receives before input

-- a world was read at some moments, of which this holds
abbrev pub Reads : {W : Type 0} → SourceOf W → (W → Bytes) → (W → Bytes) → W → W → (List Moment → Type 0) → Type 0
Reads {W} source console channel a b holds = (moments : List W) × ReadAt source moments a b × holds (map (λ (w : W). moment (source.left w) (streams (console w) (channel w))) moments)
