-- The texts of several files and of a shelf beside them, and the reads that may fail.
use Rattle.std.specs.Prelude.{◌≡◌, List, [], ◌∷◌, ◌++◌, Option, Some}
use Rattle.ac_types.specs.Types.{Bytes}
use Rattle.ac_types.specs.declared.text.Text.{Text}
use Rattle.acute_files.specs.ShelfLists.{Listed, Lists}
use Rattle.ac_load_rules.specs.Accepting.{Shelved}
use Rattle.acute_files.specs.Files.{Reading, IsTextOf}
use Rattle.acute_files.specs.ProgramTexts.{ReadRose, ListSays, IsShelfBy}

module _ (files : Bytes → Reading) where
  -- the texts of these files, in their order
  abbrev pub AreTexts : List Bytes → List Text → Type 0
  AreTexts [] [] = Unit {0}
  AreTexts (name ∷ names) (t ∷ texts) = IsTextOf (files name) t.0 × AreTexts names texts
  AreTexts _ _ = ⊥

  -- a read failed: of the list; of a file that the list names; or of one of these files, behind those of the shelf
  pub data TextsFail (names : List Bytes) : Option Bytes → Type 0 where
    of_shelf_list : {list : Bytes} → ReadRose (files list) → TextsFail names (Some list)
    of_shelf_text : {list : Bytes} (before after : List Listed) (x : Listed) → ListSays files list (Lists (before ++ x ∷ after)) → ReadRose (files x.file) → TextsFail names (Some list)
    of_text : {list : Option Bytes} (shelf : List Shelved) (before after : List Bytes) (name : Bytes) → IsShelfBy files list shelf → names ≡ before ++ name ∷ after → ReadRose (files name) → TextsFail names list
