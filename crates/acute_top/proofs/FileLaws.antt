-- Files that are told have one text, one shelf, or one bad line.
use mathlib.Core.Bool.{true≢false}
use Rattle.std.proofs.Common.{◌≡◌, ℕ, true, false, IsTrue, List, [], ◌∷◌, Option, length, map, refl, sym, ◌∙◌, ap, ap₂, subst, arith, take}
use Rattle.std.specs.Borrow.{Bor}
use Rattle.ac_types.specs.Limits.{longest_read}
use Rattle.ac_types.specs.Types.{Bytes}
use Rattle.ac_types.specs.declared.text.Text.{Text}
use Rattle.ac_types.proofs.FirstLaws.{some_eq}
use Rattle.acute_files.specs.ShelfLists.{Listed, ShelfAnswer, Lists, BadLine, shelf_answer}
use Rattle.ac_load_rules.specs.Accepting.{Shelved}
use Rattle.ac_channels.specs.ChannelFrames.{ChannelFrames, channel_frames}
use Rattle.acute_files.specs.ChannelFiles.{HasFrames}
use Rattle.acute_files.specs.Files.{Reading, IsTextOf}
use Rattle.acute_files.specs.ManyTexts.{AreTexts}
use Rattle.acute_files.specs.ProgramTexts.{AreListed, ListSays, IsShelfBy, no_list, listed, HasBadLine, bad_line}

pub one_text : (file : Reading) → IsTrue file.told → (s t : Bytes) → IsTextOf file s → IsTextOf file t → s ≡ t
one_text file told s t a b =
    let x = a told in
    let y = b told in
    x.2 ∙ ap (take longest_read) (some_eq (sym x.1 ∙ y.1)) ∙ sym y.2

pub one_channel : (file : Reading) → IsTrue file.told → (f g : ChannelFrames) → HasFrames file f → HasFrames file g → f ≡ g
one_channel file told f g a b =
    let x = a told in
    let y = b told in
    sym x.2 ∙ ap channel_frames (some_eq (sym x.1 ∙ y.1)) ∙ y.2

lists_eq : {xs ys : List Listed} → Lists xs ≡ Lists ys → xs ≡ ys
lists_eq {xs} {ys} e = ap (λ (a : ShelfAnswer). elim a [ Lists zs ↦ zs | BadLine n ↦ xs ]) e

not_lists : {xs : List Listed} {n : ℕ} → Lists xs ≡ BadLine n → ⊥
not_lists e = true≢false (ap (λ (a : ShelfAnswer). elim a [ Lists zs ↦ true | BadLine k ↦ false ]) e)

-- a text of these bytes
abbrev text_with : Bytes → Text
text_with bytes = record { 0 = bytes }

module _ (files : Bytes → Reading) (told : (name : Bytes) → IsTrue (files name).told) where
  one_answer : {list : Bytes} {a b : ShelfAnswer} → ListSays files list a → ListSays files list b → a ≡ b
  one_answer {list} x y = sym x.is_answer ∙ ap shelf_answer (one_text (files list) (told list) x.text y.text x.is_text y.is_text) ∙ y.is_answer

  one_listed : (xs : List Listed) (s t : List Shelved) → AreListed files xs s → AreListed files xs t → s ≡ t
  one_listed [] [] [] a b = refl
  one_listed [] [] (y ∷ t) a b = absurd b
  one_listed [] (x ∷ s) t a b = absurd a
  one_listed (z ∷ xs) [] t a b = absurd a
  one_listed (z ∷ xs) (x ∷ s) [] a b = absurd b
  one_listed (z ∷ xs) (x ∷ s) (y ∷ t) a b =
      let same : x ≡ y = ap₂ (λ (u v : Bytes). record { uri = u; text = v }) (a.0 ∙ sym b.0) (one_text (files z.file) (told z.file) x.text y.text a.1.0 b.1.0) in
      ap₂ (λ (w : Shelved) (ws : List Shelved). w ∷ ws) same (one_listed xs s t a.1.1 b.1.1)

  pub one_shelf : {list : Option Bytes} {s t : List Shelved} → IsShelfBy files list s → IsShelfBy files list t → s ≡ t
  one_shelf no_list no_list = refl
  one_shelf (listed xs {shelf = s} says are) (listed ys {shelf = t} others these) =
      one_listed xs s t are (subst (λ (zs : List Listed). AreListed files zs t) (sym (lists_eq (one_answer says others))) these)

  pub shelf_or_bad : {list : Option Bytes} {s : List Shelved} {n : ℕ} → IsShelfBy files list s → HasBadLine files list n → ⊥
  shelf_or_bad {n = n} no_list bad = elim bad [ ]
  shelf_or_bad (listed xs says are) (bad_line others) = not_lists (one_answer says others)

  -- and one list of texts
  pub one_list : (names : List Bytes) (s t : List Text) → AreTexts files names s → AreTexts files names t → s ≡ t
  one_list [] [] [] a b = refl
  one_list [] [] (y ∷ t) a b = absurd b
  one_list [] (x ∷ s) t a b = absurd a
  one_list (name ∷ names) [] t a b = absurd a
  one_list (name ∷ names) (x ∷ s) [] a b = absurd b
  one_list (name ∷ names) (x ∷ s) (y ∷ t) a b =
      let same : x ≡ y = ap text_with (one_text (files name) (told name) x.0 y.0 a.0 b.0) in
      ap₂ (λ (w : Text) (ws : List Text). w ∷ ws) same (one_list names s t a.1 b.1)

-- as many texts as files
texts_counted : (files : Bytes → Reading) (names : List Bytes) (texts : List Text) → AreTexts files names texts → length names ≡ length texts
texts_counted files [] [] are = refl
texts_counted files [] (t ∷ texts) are = absurd are
texts_counted files (name ∷ names) [] are = absurd are
texts_counted files (name ∷ names) (t ∷ texts) are = let rest = texts_counted files names texts are.1 in omega (arith, rest)

pub named_counted : (names : List (Bor Bytes)) → length names ≡ length (map (λ (s : Bor Bytes). s.now) names)
named_counted [] = refl
named_counted (x ∷ names) = let rest = named_counted names in omega (arith, rest)

pub texts_count : (files : Bytes → Reading) (names : List (Bor Bytes)) (texts : List Text) → AreTexts files (map (λ (s : Bor Bytes). s.now) names) texts → length names ≡ length texts
texts_count files names texts are = named_counted names ∙ texts_counted files (map (λ (s : Bor Bytes). s.now) names) texts are
