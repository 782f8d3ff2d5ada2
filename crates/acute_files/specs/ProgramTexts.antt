-- The texts of a program and of its shelf, among files, and the reads that may fail.
use Rattle.std.specs.Prelude.{◌≡◌, ℕ, List, [], ◌∷◌, ◌++◌, Option, Some, None}
use Rattle.ac_types.specs.Types.{Bytes}
use Rattle.ac_outside.specs.Outside.{Rose}
use Rattle.acute_files.specs.ShelfLists.{Listed, ShelfAnswer, Lists, BadLine, shelf_answer}
use Rattle.ac_load_rules.specs.Accepting.{Shelved}
use Rattle.acute_files.specs.Files.{Reading, IsTextOf}

-- the count of failed reads of a file rose
abbrev pub ReadRose : Reading → Type 0
ReadRose file = Rose file.before file.after

module _ (files : Bytes → Reading) where
  -- the texts of a shelf are those of the files that a list names, in its order
  abbrev pub AreListed : List Listed → List Shelved → Type 0
  AreListed [] [] = Unit {0}
  AreListed (x ∷ xs) (s ∷ shelf) = (s.uri ≡ x.uri) × (IsTextOf (files x.file) s.text × AreListed xs shelf)
  AreListed _ _ = ⊥

  -- the list of that file says so
  pub record ListSays (list : Bytes) (answer : ShelfAnswer) : Type 0 where
    pub text : Bytes
    pub is_text : IsTextOf (files list) text
    pub is_answer : shelf_answer text ≡ answer

  -- the shelf beside a program: the one that the list gives, where there is one
  pub data IsShelfBy : Option Bytes → List Shelved → Type 0 where
    no_list : IsShelfBy None []
    listed : {list : Bytes} (xs : List Listed) {shelf : List Shelved} → ListSays list (Lists xs) → AreListed xs shelf → IsShelfBy (Some list) shelf

  -- the list has a bad line, the first of which has this number
  pub data HasBadLine : Option Bytes → ℕ → Type 0 where
    bad_line : {list : Bytes} {n : ℕ} → ListSays list (BadLine n) → HasBadLine (Some list) n

  -- a read failed: of the list; of a file that the list names; or of the program's file, behind those of the shelf
  pub data ReadsFail (program : Bytes) : Option Bytes → Type 0 where
    of_list : {list : Bytes} → ReadRose (files list) → ReadsFail program (Some list)
    of_listed : {list : Bytes} (before after : List Listed) (x : Listed) → ListSays list (Lists (before ++ x ∷ after)) → ReadRose (files x.file) → ReadsFail program (Some list)
    of_program : {list : Option Bytes} (shelf : List Shelved) → IsShelfBy list shelf → ReadRose (files program) → ReadsFail program list
