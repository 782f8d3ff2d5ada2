-- Files before some calls and after them.
use Rattle.std.specs.Borrow.{Bor}
use Rattle.std.specs.Prelude.{◌≡◌, ℕ, Bool, IsTrue, List, map, take, Option, Some, option_map}
use Rattle.ac_types.specs.Limits.{longest_read}
use Rattle.ac_outside.specs.Outside.{Contents, NeverFall}
use Rattle.ac_outside.specs.declared.traits.Files.{Ghosts as FilesOf}

-- what files have and count
pub record FilesSeen : Type 0 where
  pub contents : Contents
  pub read_faults : List ℕ → ℕ
  pub write_faults : List ℕ → ℕ

abbrev pub files_seen : {Files : Type 0} → (Files → Contents) → (Files → List ℕ → ℕ) → (Files → List ℕ → ℕ) → Files → FilesSeen
files_seen contents reads writes files = record { contents = contents files; read_faults = reads files; write_faults = writes files }

-- a file that is read: what it has before the call, where that is told, and its count of failed reads before and after the call
pub record Reading : Type 0 where
  pub told : Bool
  pub bytes : Option (List ℕ)
  pub before : ℕ
  pub after : ℕ

-- each file, from what files have and count before and after
abbrev pub files_read : Bool → FilesSeen → FilesSeen → List ℕ → Reading
files_read told old new name = record { told = told; bytes = old.contents name; before = old.read_faults name; after = new.read_faults name }

-- the names that a call is given
abbrev pub name_in : Option (Bor (List ℕ)) → Option (List ℕ)
name_in = option_map (λ s. s.now)

abbrev pub names_in : List (Bor (List ℕ)) → List (List ℕ)
names_in = map (λ s. s.now)

-- what files have and count
abbrev pub seen : {F : Type 0} → FilesOf F → F → FilesSeen
seen f files = files_seen f.contents f.read_faults f.write_faults files

-- files as they are read, before some calls and after them
abbrev pub reading : {F : Type 0} → FilesOf F → F → F → List ℕ → Reading
reading f old new = files_read f.told (seen f old) (seen f new)

-- the text is what is read of the file: all, or its first `longest_read` bytes
abbrev pub IsTextOf : Reading → List ℕ → Type 0
IsTextOf file text = IsTrue file.told → (bytes : List ℕ) × (file.bytes ≡ Some bytes) × (text ≡ take longest_read bytes)

-- files since a call began: they have what they had, and no count has fallen
pub record Since (told : Bool) (start now : FilesSeen) : Type 0 where
  pub same : IsTrue told → now.contents ≡ start.contents
  pub reads : NeverFall start.read_faults now.read_faults
  pub writes : NeverFall start.write_faults now.write_faults
