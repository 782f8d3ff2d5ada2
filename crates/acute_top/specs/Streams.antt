-- Streams before and after a call, and what a call wrote.
use Rattle.std.specs.Prelude.{◌≡◌, ℕ, Bool, IsTrue, List, [], ◌∷◌, ◌++◌, codes}
use Rattle.std.specs.Fmt.{decimal}
use Rattle.ac_outside.specs.Outside.{Extends}
use Rattle.acute_top.specs.Traits.{SourceOf, SinkOf}

-- a stream or a file: what was written to it before and after the call, where that is told, and its count of failed writes
pub record Writing : Type 0 where
  pub told : Bool
  pub old : List ℕ
  pub new : List ℕ
  pub before : ℕ
  pub after : ℕ

-- a stream that is read: what it has left before and after the call, where that is told, and its count of failed reads
pub record Feeding : Type 0 where
  pub told : Bool
  pub old : List ℕ
  pub new : List ℕ
  pub before : ℕ
  pub after : ℕ

-- such a stream, by what it has left and counts, before and after the call
abbrev pub feeding : {S : Type 0} → SourceOf S → S → S → Feeding
feeding source old new =
    record { told = source.told; old = source.left old; new = source.left new; before = source.read_faults old; after = source.read_faults new }

-- a stream, by what it has and counts, before and after the call
abbrev pub writing : {S : Type 0} → SinkOf S → S → S → Writing
writing sink old new =
    record { told = sink.told; old = sink.written old; new = sink.written new; before = sink.faults old; after = sink.faults new }

-- exactly this was written
abbrev pub AllWritten : Writing → List ℕ → Type 0
AllWritten stream bytes = IsTrue stream.told → stream.new ≡ stream.old ++ bytes

-- some prefix of this was written, and no more
abbrev pub PrefixWritten : Writing → List ℕ → Type 0
PrefixWritten stream bytes = IsTrue stream.told → Extends stream.old stream.new bytes

abbrev pub words_line : List ℕ
words_line = codes "acute: words refused" ++ 10 ∷ []

abbrev pub read_line : List ℕ
read_line = codes "acute: read fault" ++ 10 ∷ []

abbrev pub write_line : List ℕ
write_line = codes "acute: write fault" ++ 10 ∷ []

abbrev pub memory_line : List ℕ
memory_line = codes "acute: out of memory" ++ 10 ∷ []

abbrev pub start_line : List ℕ
start_line = codes "acute: start fault" ++ 10 ∷ []

-- the list of a shelf has a bad line of this number
abbrev pub shelf_line : ℕ → List ℕ
shelf_line n = codes "acute: shelf: line " ++ (decimal n ++ 10 ∷ [])
