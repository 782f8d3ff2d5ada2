-- The reads of a shelf, in their order.
use Rattle.std.specs.Prelude.{◌≡◌, ◌⊎◌, List, ◌∷◌, Option, Some, None}
use Rattle.ac_types.specs.Types.{Bytes}
use Rattle.ac_outside.specs.declared.traits.Files.{Ghosts as FilesOf}
use Rattle.acute_files.specs.Files.{reading}
use Rattle.acute_files.specs.ShelfLists.{Listed, Lists, shelf_answer}
use Rattle.acute_files.specs.ProgramTexts.{ListSays}
use Rattle.acute_files.specs.ReadOrder.{ReadInTurn, files_listed}

-- the files were read that a list of this text names
pub record LinesRead {F : Type 0} (f : FilesOf F) (text : Bytes) (a b : F) : Type 0 where
  pub listed : List Listed
  pub says : shelf_answer text ≡ Lists listed
  pub turn : ReadInTurn f.reads (files_listed listed) a b

-- they were, or none was
abbrev pub LinesTried : {F : Type 0} → FilesOf F → Bytes → F → F → Type 0
LinesTried f text a b = (b ≡ a) ⊎ LinesRead f text a b

-- a list was read, and then the files that it names
pub record ListRead {F : Type 0} (f : FilesOf F) (list : Bytes) (a b : F) : Type 0 where
  pub listed : List Listed
  pub says : ListSays (reading f a b) list (Lists listed)
  pub turn : ReadInTurn f.reads (list ∷ files_listed listed) a b

-- they were, or the list alone was
abbrev pub ListTried : {F : Type 0} → FilesOf F → Bytes → F → F → Type 0
ListTried f list a b = f.reads list a b ⊎ ListRead f list a b

-- likewise of a shelf, which may have no list
abbrev pub ShelfRead : {F : Type 0} → FilesOf F → Option Bytes → F → F → Type 0
ShelfRead f None a b = b ≡ a
ShelfRead f (Some list) a b = ListRead f list a b

abbrev pub ShelfTried : {F : Type 0} → FilesOf F → Option Bytes → F → F → Type 0
ShelfTried f None a b = b ≡ a
ShelfTried f (Some list) a b = ListTried f list a b
