-- What is read between two moments is read between an earlier one and a later one.
use Rattle.std.proofs.Common.{◌≡◌, ◌≤◌, ◌<◌, ◌+◌, ℕ, zero, suc, Bool, IsTrue, List, [], ◌∷◌, ◌++◌, length, get_or, map, take, drop, Option, Some, None, Ok, Err, IfOk, refl, sym, ◌∙◌, ap, ap₂, subst, arith}
use Rattle.std.specs.Prelude.{◌&&◌, Result}
use Rattle.std.specs.List.{list_all}
use Rattle.ac_types.specs.Types.{Bytes}
use Rattle.ac_outside.specs.Outside.{Contents}
use Rattle.acute_files.specs.ShelfLists.{Listed, ShelfAnswer, Lists, listed_uris}
use Rattle.ac_rules.specs.Modules.{are_distinct}
use Rattle.ac_types.specs.Limits.{is_uri}
use Rattle.acute_files.proofs.GoodLists.{good_list}
use Rattle.ac_load_rules.specs.Accepting.{Shelved, IsShelf}
use Rattle.ac_load.specs.Loading.{shelf_of}
use Rattle.ac_load.specs.declared.shelf.Shelf.{Shelf}
use Rattle.acute_files.specs.Files.{FilesSeen, Reading, files_read, IsTextOf}
use Rattle.acute_files.specs.ProgramTexts.{ReadRose, AreListed, ListSays, IsShelfBy, no_list, listed, ReadsFail, of_list, of_listed}
use Rattle.acute_files.specs.inner.Failing.{LinesGive, EntriesFail, LinesFail, ShelfFails, of_the_list, of_an_entry}

-- from s to v there is all from t to u
pub record Within (told : Bool) (s t u v : FilesSeen) : Type 0 where
  pub same : IsTrue told → t.contents ≡ s.contents
  pub low : (name : Bytes) → s.read_faults name ≤ t.read_faults name
  pub high : (name : Bytes) → u.read_faults name ≤ v.read_faults name

pub at_once : (told : Bool) (s u v : FilesSeen) → ((name : Bytes) → u.read_faults name ≤ v.read_faults name) → Within told s s u v
at_once told s u v high = record { same = λ t. refl; low = λ name. omega arith; high = high }

pub to_end : (told : Bool) (s t u : FilesSeen) → (IsTrue told → t.contents ≡ s.contents) → ((name : Bytes) → s.read_faults name ≤ t.read_faults name) → Within told s t u u
to_end told s t u same low = record { same = same; low = low; high = λ name. omega arith }

module _ {told : Bool} {s t u v : FilesSeen} (w : Within told s t u v) where
  pub wide_text : (name : Bytes) (text : Bytes) → IsTextOf (files_read told t u name) text → IsTextOf (files_read told s v name) text
  wide_text name text is = λ yes. let x = is yes in (x.0, sym (ap (λ (c : Contents). c name) (w.same yes)) ∙ x.1, x.2)

  pub wide_rose : (name : Bytes) → ReadRose (files_read told t u name) → ReadRose (files_read told s v name)
  wide_rose name rose = omega (arith, w.low name, w.high name, rose)

  pub wide_listed : (xs : List Listed) (shelf : List Shelved) → AreListed (files_read told t u) xs shelf → AreListed (files_read told s v) xs shelf
  wide_listed [] [] are = tt
  wide_listed [] (x ∷ shelf) are = absurd are
  wide_listed (x ∷ xs) [] are = absurd are
  wide_listed (x ∷ xs) (y ∷ shelf) are = (are.0, (wide_text x.file y.text are.1.0, wide_listed xs shelf are.1.1))

  pub wide_says : {list : Bytes} {a : ShelfAnswer} → ListSays (files_read told t u) list a → ListSays (files_read told s v) list a
  wide_says {list} {a} x = record { text = x.text; is_text = wide_text list x.text x.is_text; is_answer = x.is_answer }

  pub wide_shelf : {list : Option Bytes} {shelf : List Shelved} → IsShelfBy (files_read told t u) list shelf → IsShelfBy (files_read told s v) list shelf
  wide_shelf no_list = no_list
  wide_shelf (listed xs {shelf} says are) = listed xs (wide_says says) (wide_listed xs shelf are)

  pub wide_entries : {xs : List Listed} → EntriesFail (files_read told t u) xs → EntriesFail (files_read told s v) xs
  wide_entries x = record { before = x.before; after = x.after; entry = x.entry; among = x.among; rose = wide_rose x.entry.file x.rose }

  pub wide_give : {text : Bytes} {shelf : List Shelved} → LinesGive (files_read told t u) text shelf → LinesGive (files_read told s v) text shelf
  wide_give {text} {shelf} x = record { listed = x.listed; says = x.says; are = wide_listed x.listed shelf x.are }

  pub wide_lines : {text : Bytes} → LinesFail (files_read told t u) text → LinesFail (files_read told s v) text
  wide_lines x = record { listed = x.listed; says = x.says; fails = wide_entries x.fails }

-- the texts that are read don't depend on the counts behind them
later_listed : (told : Bool) (s u v : FilesSeen) (xs : List Listed) (shelf : List Shelved) → AreListed (files_read told s u) xs shelf → AreListed (files_read told s v) xs shelf
later_listed told s u v [] [] are = tt
later_listed told s u v [] (y ∷ shelf) are = absurd are
later_listed told s u v (x ∷ xs) [] are = absurd are
later_listed told s u v (x ∷ xs) (y ∷ shelf) are = (are.0, (are.1.0, later_listed told s u v xs shelf are.1.1))

pub later_shelf : (told : Bool) (s u v : FilesSeen) {list : Option Bytes} {shelf : List Shelved} → IsShelfBy (files_read told s u) list shelf → IsShelfBy (files_read told s v) list shelf
later_shelf told s u v no_list = no_list
later_shelf told s u v (listed xs {shelf} says are) = listed xs (record { text = says.text; is_text = says.is_text; is_answer = says.is_answer }) (later_listed told s u v xs shelf are)

-- what fails of the shelf fails
pub shelf_fails : (files : Bytes → Reading) (program : Bytes) {list : Option Bytes} → ShelfFails files list → ReadsFail files program list
shelf_fails files program (of_the_list rose) = of_list rose
shelf_fails files program (of_an_entry before after x says rose) = of_listed before after x says rose

-- a list that was read, with its entries
pub lines_listed : (files : Bytes → Reading) (list text : Bytes) (shelf : List Shelved) → IsTextOf (files list) text → LinesGive files text shelf → IsShelfBy files (Some list) shelf
lines_listed files list text shelf is g = listed g.listed (record { text = text; is_text = is; is_answer = g.says }) g.are

pub lines_fail : (files : Bytes → Reading) (list text : Bytes) → IsTextOf (files list) text → LinesFail files text → ShelfFails files (Some list)
lines_fail files list text is f =
    of_an_entry f.fails.before f.fails.after f.fails.entry
    (record { text = text; is_text = is; is_answer = f.says ∙ ap Lists f.fails.among }) f.fails.rose

-- one text more
pub one_more : (files : Bytes → Reading) (xs : List Listed) (shelf : List Shelved) (x : Listed) (y : Shelved) → AreListed files xs shelf → y.uri ≡ x.uri → IsTextOf (files x.file) y.text → AreListed files (xs ++ x ∷ []) (shelf ++ y ∷ [])
one_more files [] [] x y are uri text = (uri, (text, tt))
one_more files [] (z ∷ shelf) x y are uri text = absurd are
one_more files (z ∷ xs) [] x y are uri text = absurd are
one_more files (z ∷ xs) (a ∷ shelf) x y are uri text = (are.0, (are.1.0, one_more files xs shelf x y are.1.1 uri text))

-- no shelf
pub none_given : (files : Bytes → Reading) (list : Option Bytes) (shelf : List Shelved) → list ≡ None → shelf ≡ [] → IsShelfBy files list shelf
none_given files list shelf none empty = subst (λ (l : Option Bytes). IsShelfBy files l shelf) (sym none) (subst (λ (s : List Shelved). IsShelfBy files None s) (sym empty) no_list)

-- the same shelf
pub same_shelf : (files : Bytes → Reading) (list : Option Bytes) (a b : Shelf) → b ≡ a → IsShelfBy files list (shelf_of a) → IsShelfBy files list (shelf_of b)
same_shelf files list a b is h = subst (λ (s : Shelf). IsShelfBy files list (shelf_of s)) (sym is) h

-- what follows from an answer that is there
pub map_ok : {A E : Type 0} (r : Result A E) (P Q : A → Type 0) → ((a : A) → P a → Q a) → IfOk r P → IfOk r Q
map_ok (Ok a) P Q f h = f a h
map_ok (Err e) P Q f h = tt

-- a list at a place
pub split_there : {A B : Type 0} (f : A → B) (xs : List A) (i : ℕ) (x : A) → i < length xs → x ≡ get_or xs i x → map f xs ≡ map f (take i xs) ++ f x ∷ map f (drop (suc i) xs)
split_there f [] i x lt is = absurd (omega (arith, lt))
split_there {A} {B} f (y ∷ ys) zero x lt is = ap (λ (z : A). f z ∷ map f ys) (sym is)
split_there {A} {B} f (y ∷ ys) (suc i) x lt is = ap (λ (l : List B). f y ∷ l) (split_there f ys i x (omega (arith, lt)) is)

take_suc : {A B : Type 0} (f : A → B) (xs : List A) (i : ℕ) (x : A) → i < length xs → x ≡ get_or xs i x → map f (take (suc i) xs) ≡ map f (take i xs) ++ f x ∷ []
take_suc f [] i x lt is = absurd (omega (arith, lt))
take_suc {A} {B} f (y ∷ ys) zero x lt is = ap (λ (z : A). f z ∷ []) (sym is)
take_suc {A} {B} f (y ∷ ys) (suc i) x lt is = ap (λ (l : List B). f y ∷ l) (take_suc f ys i x (omega (arith, lt)) is)

pub take_more : {A B : Type 0} (f : A → B) (xs : List A) (i : ℕ) (x : A) → i < length xs → x ≡ get_or xs i x → map f (take (i + 1) xs) ≡ map f (take i xs) ++ f x ∷ []
take_more f xs i x lt is = let next : i + 1 ≡ suc i = omega arith in rw next (take_suc f xs i x lt is)

pub map_more : {A B : Type 0} (f : A → B) (xs : List A) (x : A) → map f (xs ++ x ∷ []) ≡ map f xs ++ f x ∷ []
map_more f [] x = refl
map_more {A} {B} f (y ∷ ys) x = ap (λ (l : List B). f y ∷ l) (map_more f ys x)

-- texts under the URIs of a list
uris_same : (files : Bytes → Reading) (xs : List Listed) (shelf : List Shelved) → AreListed files xs shelf → map (λ (s : Shelved). s.uri) shelf ≡ listed_uris xs
uris_same files [] [] are = refl
uris_same files [] (y ∷ shelf) are = absurd are
uris_same files (x ∷ xs) [] are = absurd are
uris_same files (x ∷ xs) (y ∷ shelf) are = ap₂ (λ (u : Bytes) (us : List Bytes). u ∷ us) are.0 (uris_same files xs shelf are.1.1)

uris_fit : (files : Bytes → Reading) (xs : List Listed) (shelf : List Shelved) → AreListed files xs shelf → list_all (λ (s : Shelved). is_uri s.uri) shelf ≡ list_all (λ (x : Listed). is_uri x.uri) xs
uris_fit files [] [] are = refl
uris_fit files [] (y ∷ shelf) are = absurd are
uris_fit files (x ∷ xs) [] are = absurd are
uris_fit files (x ∷ xs) (y ∷ shelf) are = ap₂ (λ (u : Bytes) (b : Bool). is_uri u && b) are.0 (uris_fit files xs shelf are.1.1)

-- they are a shelf where the list's are so
pub is_shelf_by : (files : Bytes → Reading) (xs : List Listed) (shelf : List Shelved) → AreListed files xs shelf → IsTrue (list_all (λ (x : Listed). is_uri x.uri) xs) → IsTrue (are_distinct (listed_uris xs)) → IsShelf shelf
is_shelf_by files xs shelf are fit apart = record { uris = uris_fit files xs shelf are ∙ fit; distinct = ap are_distinct (uris_same files xs shelf are) ∙ apart }

same_count : (files : Bytes → Reading) (xs : List Listed) (shelf : List Shelved) → AreListed files xs shelf → length shelf ≡ length xs
same_count files [] [] are = refl
same_count files [] (y ∷ shelf) are = absurd are
same_count files (x ∷ xs) [] are = absurd are
same_count files (x ∷ xs) (y ∷ shelf) are = ap suc (same_count files xs shelf are.1.1)

-- what stands beside a program is a shelf
pub good_shelf : (files : Bytes → Reading) (list : Option Bytes) (shelf : List Shelved) → IsShelfBy files list shelf → IsShelf shelf × (length shelf ≤ 256)
good_shelf files None _ no_list = (record { uris = refl; distinct = refl }, omega arith)
good_shelf files (Some list) shelf (listed xs says are) =
    let good = good_list says.text xs says.is_answer in
    let same = same_count files xs shelf are in
    let few = good.few in
    (is_shelf_by files xs shelf are good.uris good.apart, omega (arith, same, few))
