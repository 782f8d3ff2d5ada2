-- The reads of a shelf that may fail, and what the lines of a list give.
use Rattle.std.specs.Prelude.{◌≡◌, List, ◌∷◌, ◌++◌, Option, Some}
use Rattle.ac_types.specs.Types.{Bytes}
use Rattle.acute_files.specs.ShelfLists.{Listed, Lists, shelf_answer}
use Rattle.ac_load_rules.specs.Accepting.{Shelved}
use Rattle.acute_files.specs.Files.{Reading}
use Rattle.acute_files.specs.ProgramTexts.{ReadRose, AreListed, ListSays}

module _ (files : Bytes → Reading) where
  -- a list of this text gives the shelf
  pub record LinesGive (text : Bytes) (shelf : List Shelved) : Type 0 where
    pub listed : List Listed
    pub says : shelf_answer text ≡ Lists listed
    pub are : AreListed files listed shelf

  -- of one of some entries
  pub record EntriesFail (xs : List Listed) : Type 0 where
    pub before : List Listed
    pub after : List Listed
    pub entry : Listed
    pub among : xs ≡ before ++ entry ∷ after
    pub rose : ReadRose (files entry.file)

  -- of one of some files
  pub record OneFails (names : List Bytes) : Type 0 where
    pub before : List Bytes
    pub after : List Bytes
    pub name : Bytes
    pub among : names ≡ before ++ name ∷ after
    pub rose : ReadRose (files name)

  -- of an entry of a list of this text
  pub record LinesFail (text : Bytes) : Type 0 where
    pub listed : List Listed
    pub says : shelf_answer text ≡ Lists listed
    pub fails : EntriesFail listed

  -- of the list, or of one of its entries
  pub data ShelfFails : Option Bytes → Type 0 where
    of_the_list : {list : Bytes} → ReadRose (files list) → ShelfFails (Some list)
    of_an_entry : {list : Bytes} (before after : List Listed) (x : Listed) → ListSays files list (Lists (before ++ x ∷ after)) → ReadRose (files x.file) → ShelfFails (Some list)
