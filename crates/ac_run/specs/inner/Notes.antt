-- What becomes of a journal.
use Rattle.std.specs.Prelude.{◌≡◌, ◌⊎◌, List, ◌++◌, Option, Some, None}
use Rattle.ac_meaning.specs.Worlds.{Crossing}
use Rattle.ac_run.specs.Journals.{read_journal, noted}
use Rattle.ac_run.specs.declared.end.RunEnd.{RunEnd}
use Rattle.ac_run.specs.declared.journal.Journal.{Journal}

-- these crossings were noted, if it is kept
abbrev pub HasTaken : List Crossing → Journal → Journal → Type 0
HasTaken xs old new = (new.keeps ≡ old.keeps) × (read_journal new.crossings ≡ read_journal old.crossings ++ noted old.keeps xs)

-- they were noted where the run goes on; where it ends, they may not have been
abbrev pub Notes : List Crossing → Journal → Journal → Option RunEnd → Type 0
Notes xs old new None = HasTaken xs old new
Notes xs old new (Some r) = (new ≡ old) ⊎ HasTaken xs old new
