-- Files that are read one after another.
use Rattle.std.proofs.Common.{◌≡◌, ◌<◌, ◌+◌, ℕ, zero, suc, List, [], ◌∷◌, ◌++◌, length, get_or, map, take, drop, Bool, Option, Some, None, inl, inr, refl, sym, ap, subst, append_assoc, arith}
use Rattle.std.specs.Borrow.{Bor}
use Rattle.ac_types.specs.Types.{Bytes}
use Rattle.ac_types.specs.declared.text.Text.{Text}
use Rattle.ac_outside.specs.declared.traits.Files.{Ghosts as FilesOf}
use Rattle.acute_files.specs.Files.{FilesSeen, Reading, files_read, reading, names_in, IsTextOf}
use Rattle.acute_files.specs.ShelfLists.{Listed, Lists, listed_of, shelf_answer}
use Rattle.acute_files.specs.declared.list.ShelfLine.{ShelfLine}
use Rattle.acute_files.specs.ManyTexts.{AreTexts, TextsFail, of_shelf_list, of_shelf_text}
use Rattle.acute_files.specs.ReadOrder.{ReadInTurn, files_listed, TextsRead, without_list, list_alone, with_list}
use Rattle.acute_files.specs.inner.Failing.{OneFails, ShelfFails, of_the_list, of_an_entry}
use Rattle.acute_files.specs.inner.ShelfReads.{LinesRead, LinesTried, ListRead, ListTried, ShelfRead, ShelfTried}
use Rattle.acute_files.proofs.Wider.{Within, wide_text, wide_rose}

-- the names at a place
pub named_there : (names : List (Bor Bytes)) (i : ℕ) (d : Bor Bytes) → i < length names → names_in names ≡ names_in (take i names) ++ (get_or names i d).now ∷ names_in (drop (suc i) names)
named_there [] i d lt = absurd (omega (arith, lt))
named_there (x ∷ names) zero d lt = refl
named_there (x ∷ names) (suc i) d lt = ap (λ (l : List Bytes). x.now ∷ l) (named_there names i d (omega (arith, lt)))

named_next : (names : List (Bor Bytes)) (i : ℕ) (d : Bor Bytes) → i < length names → names_in (take (suc i) names) ≡ names_in (take i names) ++ (get_or names i d).now ∷ []
named_next [] i d lt = absurd (omega (arith, lt))
named_next (x ∷ names) zero d lt = refl
named_next (x ∷ names) (suc i) d lt = ap (λ (l : List Bytes). x.now ∷ l) (named_next names i d (omega (arith, lt)))

pub named_more : (names : List (Bor Bytes)) (i : ℕ) (d : Bor Bytes) → i < length names → names_in (take (i + 1) names) ≡ names_in (take i names) ++ (get_or names i d).now ∷ []
named_more names i d lt = let next : i + 1 ≡ suc i = omega arith in rw next (named_next names i d lt)

-- texts that are read between two moments are read between an earlier one and a later one
module _ {told : Bool} {s t u v : FilesSeen} (w : Within told s t u v) where
  pub wide_texts : (names : List Bytes) (texts : List Text) → AreTexts (files_read told t u) names texts → AreTexts (files_read told s v) names texts
  wide_texts [] [] are = tt
  wide_texts [] (x ∷ texts) are = absurd are
  wide_texts (name ∷ names) [] are = absurd are
  wide_texts (name ∷ names) (x ∷ texts) are = (wide_text w name x.0 are.0, wide_texts names texts are.1)

  pub wide_one : {names : List Bytes} → OneFails (files_read told t u) names → OneFails (files_read told s v) names
  wide_one x = record { before = x.before; after = x.after; name = x.name; among = x.among; rose = wide_rose w x.name x.rose }

-- one text more
pub text_more : (files : Bytes → Reading) (names : List Bytes) (texts : List Text) (name : Bytes) (text : Text) → AreTexts files names texts → IsTextOf (files name) text.0 → AreTexts files (names ++ name ∷ []) (texts ++ text ∷ [])
text_more files [] [] name text are is = (is, tt)
text_more files [] (x ∷ texts) name text are is = absurd are
text_more files (n ∷ names) [] name text are is = absurd are
text_more files (n ∷ names) (x ∷ texts) name text are is = (are.0, text_more files names texts name text are.1 is)

module _ {Files : Type 0} (reads : Bytes → Files → Files → Type 0) (none : (name : Bytes) (a : Files) → reads name a a) where
  -- where nothing is read
  pub turn_none : (names : List Bytes) (a : Files) → ReadInTurn reads names a a
  turn_none [] a = refl
  turn_none (name ∷ names) a = (a, (none name a, turn_none names a))

  -- one file more, and none behind it
  pub turn_stop : (names rest : List Bytes) (name : Bytes) (a b c : Files) → ReadInTurn reads names a b → reads name b c → ReadInTurn reads (names ++ name ∷ rest) a c
  turn_stop [] rest name a b c turn last = (c, (subst (λ (x : Files). reads name x c) turn last, turn_none rest c))
  turn_stop (n ∷ names) rest name a b c turn last = (turn.0, (turn.1.0, turn_stop names rest name turn.0 b c turn.1.1 last))

  -- one turn behind another
  pub turn_append : (xs ys : List Bytes) (a b c : Files) → ReadInTurn reads xs a b → ReadInTurn reads ys b c → ReadInTurn reads (xs ++ ys) a c
  turn_append [] ys a b c first second = subst (λ (x : Files). ReadInTurn reads ys x c) first second
  turn_append (x ∷ xs) ys a b c first second = (first.0, (first.1.0, turn_append xs ys first.0 b c first.1.1 second))

-- the files that a list names, at an entry
pub listed_there : (xs ys : List Listed) (x : Listed) → files_listed (xs ++ x ∷ ys) ≡ files_listed xs ++ x.file ∷ files_listed ys
listed_there [] ys x = refl
listed_there (z ∷ xs) ys x = ap (λ (l : List Bytes). z.file ∷ l) (listed_there xs ys x)

module _ {F : Type 0} (f : FilesOf F) where
  -- where nothing is read
  pub texts_none : (names : List Bytes) (list : Option Bytes) (a : F) → TextsRead f names a a list
  texts_none names None a = without_list (turn_none f.reads f.reads_none names a)
  texts_none names (Some list) a = list_alone (f.reads_none list a)

  -- the files of a list's lines were read
  pub lines_read : (text : Bytes) (shown lines : List ShelfLine) (a b : F) → shown ≡ lines → shelf_answer text ≡ Lists (map listed_of lines) → ReadInTurn f.reads (files_listed (map listed_of shown)) a b → LinesRead f text a b
  lines_read text shown lines a b same says turn = record { listed = map listed_of lines; says = says; turn = subst (λ (ls : List ShelfLine). ReadInTurn f.reads (files_listed (map listed_of ls)) a b) same turn }

  -- a list was read, and then the files of its lines
  pub list_read : (list text : Bytes) (a b c : F) → IsTextOf (reading f a c list) text → f.reads list a b → LinesRead f text b c → ListRead f list a c
  list_read list text a b c is first lines = record { listed = lines.listed; says = record { text = text; is_text = is; is_answer = lines.says }; turn = (b, (first, lines.turn)) }

  pub list_tried : (list text : Bytes) (a b c : F) → IsTextOf (reading f a c list) text → f.reads list a b → LinesTried f text b c → ListTried f list a c
  list_tried list text a b c is first (inl same) = inl (subst (λ (x : F). f.reads list a x) (sym same) first)
  list_tried list text a b c is first (inr lines) = inr (list_read list text a b c is first lines)

  -- behind a shelf that was read come these files
  pub shelf_then : (names : List Bytes) (list : Option Bytes) (a b c : F) → ShelfRead f list a b → ReadInTurn f.reads names b c → TextsRead f names a c list
  shelf_then names None a b c same turn = without_list (subst (λ (x : F). ReadInTurn f.reads names x c) same turn)
  shelf_then names (Some list) a b c shelf turn =
      with_list shelf.listed (record { text = shelf.says.text; is_text = shelf.says.is_text; is_answer = shelf.says.is_answer })
      (turn_append f.reads f.reads_none (list ∷ files_listed shelf.listed) names a b c shelf.turn turn)

  -- and behind one that wasn't, none
  pub shelf_tried : (names : List Bytes) (list : Option Bytes) (a b : F) → ShelfTried f list a b → TextsRead f names a b list
  shelf_tried names None a b same = without_list (subst (λ (x : F). ReadInTurn f.reads names a x) (sym same) (turn_none f.reads f.reads_none names a))
  shelf_tried names (Some list) a b (inl alone) = list_alone alone
  shelf_tried names (Some list) a b (inr shelf) =
      with_list shelf.listed shelf.says (turn_append f.reads f.reads_none (list ∷ files_listed shelf.listed) names a b b shelf.turn (turn_none f.reads f.reads_none names b))

  -- behind texts that were read none of these was
  pub texts_more : (names more : List Bytes) {list : Option Bytes} (a b : F) → TextsRead f names a b list → TextsRead f (names ++ more) a b list
  texts_more names more a b (without_list turn) = without_list (turn_append f.reads f.reads_none names more a b b turn (turn_none f.reads f.reads_none more b))
  texts_more names more a b (list_alone alone) = list_alone alone
  texts_more names more a b (with_list {list = list} xs says turn) =
      with_list xs says
      (subst (λ (l : List Bytes). ReadInTurn f.reads (list ∷ l) a b) (append_assoc (files_listed xs) names more)
      (turn_append f.reads f.reads_none (list ∷ (files_listed xs ++ names)) more a b b turn (turn_none f.reads f.reads_none more b)))

-- what fails of the shelf fails
pub shelf_fails_too : (files : Bytes → Reading) (names : List Bytes) {list : Option Bytes} → ShelfFails files list → TextsFail files names list
shelf_fails_too files names (of_the_list rose) = of_shelf_list rose
shelf_fails_too files names (of_an_entry before after x says rose) = of_shelf_text before after x says rose
