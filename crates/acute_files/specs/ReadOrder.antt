-- Which files are read for texts, and in which order.
use Rattle.std.specs.Prelude.{◌≡◌, List, [], ◌∷◌, ◌++◌, map, Option, Some, None}
use Rattle.ac_types.specs.Types.{Bytes}
use Rattle.ac_outside.specs.declared.traits.Files.{Ghosts as FilesOf}
use Rattle.acute_files.specs.Files.{reading}
use Rattle.acute_files.specs.ShelfLists.{Listed, Lists}
use Rattle.acute_files.specs.ProgramTexts.{ListSays}

-- between two moments the files of these names were read, one after another, and no others
abbrev pub ReadInTurn : {Files : Type 0} → (Bytes → Files → Files → Type 0) → List Bytes → Files → Files → Type 0
ReadInTurn {Files} reads [] a b = b ≡ a
ReadInTurn {Files} reads (name ∷ names) a c = (b : Files) × (reads name a b × ReadInTurn reads names b c)

-- the files that a list names, in its order
abbrev pub files_listed : List Listed → List Bytes
files_listed xs = map (λ (x : Listed). x.file) xs

-- between two moments the list of a shelf was read, where there is one, then the files that it names, and then these; where the list isn't read to its end, or has a bad line, it alone
pub data TextsRead {F : Type 0} (f : FilesOf F) (names : List Bytes) (a b : F) : Option Bytes → Type 0 where
  without_list : ReadInTurn f.reads names a b → TextsRead f names a b None
  list_alone : {list : Bytes} → f.reads list a b → TextsRead f names a b (Some list)
  with_list : {list : Bytes} (xs : List Listed) → ListSays (reading f a b) list (Lists xs) → ReadInTurn f.reads (list ∷ (files_listed xs ++ names)) a b → TextsRead f names a b (Some list)
