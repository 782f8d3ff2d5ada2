-- One line more.
use Rattle.std.proofs.Common.{◌≡◌, ◌<◌, ◌≤◌, ◌+◌, ℕ, zero, suc, List, [], ◌∷◌, ◌++◌, length, get_or, map, drop, Option, Some, None, refl, sym, ◌∙◌, ap, arith, append_assoc, append-nil, Bor}
use Rattle.std.specs.Prelude.{⊤, MatchOption}
use Rattle.std.specs.Option.{option_copied}
use Rattle.std.specs.Prelude.{slice_get}
use Rattle.ac_types.specs.Types.{Bytes}
use Rattle.ac_types.proofs.FirstLaws.{none≢some, some_eq}
use Rattle.ac_text.specs.NumberedLines.{lines_from}

next_of : {A B : Type 0} (line : ℕ → B → Bytes) (f : A → B) (xs : List A) (j k n : ℕ) (x : A) → slice_get xs k ≡ Some x → n ≡ suc k
    → lines_from line j (drop k (map f xs)) ≡ line j (f x) ++ lines_from line (j + 1) (drop n (map f xs))
next_of line f [] j k n x h e = absurd (none≢some h)
next_of {A} line f (y ∷ ys) j zero n x h e = rw (e, some_eq h) refl
next_of line f (y ∷ ys) j (suc k) n x h e = rw e (next_of line f ys j k (suc k) x h refl)

-- what is written, and the lines that are left
pub one_more : {A B : Type 0} (line : ℕ → B → Bytes) (f : A → B) (xs : List A) (k : ℕ) (x : A) (before now start : Bytes) → slice_get xs k ≡ Some x
    → before ++ lines_from line k (drop k (map f xs)) ≡ start → now ≡ before ++ line k (f x) → now ++ lines_from line (k + 1) (drop (k + 1) (map f xs)) ≡ start
one_more {A} {B} line f xs k x before now start there so_far put =
    ap (λ (l : Bytes). l ++ lines_from line (k + 1) (drop (k + 1) (map f xs))) put
    ∙ append_assoc before (line k (f x)) (lines_from line (k + 1) (drop (k + 1) (map f xs)))
    ∙ ap (λ (l : Bytes). before ++ l) (sym (next_of line f xs k k (k + 1) x there (omega arith)))
    ∙ so_far

pub get_there : {A : Type 0} (xs : List A) (k : ℕ) (x : A) → k < length xs → x ≡ get_or xs k x → slice_get xs k ≡ Some x
get_there [] k x lt is = absurd (omega (arith, lt))
get_there (y ∷ ys) zero x lt is = ap Some (sym is)
get_there (y ∷ ys) (suc k) x lt is = get_there ys k x (omega (arith, lt)) is

pub get_none : {A : Type 0} (xs : List A) (k : ℕ) → k < length xs → slice_get xs k ≡ None → ⊥
get_none [] k lt is = omega (arith, lt)
get_none (y ∷ ys) zero lt is = none≢some (sym is)
get_none (y ∷ ys) (suc k) lt is = get_none ys k (omega (arith, lt)) is

-- no line is left
pub at_end : {A B : Type 0} (line : ℕ → B → Bytes) (f : A → B) (xs : List A) (k : ℕ) (now start : Bytes) → length xs ≤ k → now ++ lines_from line k (drop k (map f xs)) ≡ start → now ≡ start
at_end {A} {B} line f xs k now start le h = sym (append-nil now) ∙ ap (λ (l : Bytes). now ++ l) (sym (none_left xs k k le)) ∙ h where
  none_left : (ys : List A) (i j : ℕ) → length ys ≤ i → lines_from line j (drop i (map f ys)) ≡ []
  none_left [] zero j l = refl
  none_left [] (suc i) j l = refl
  none_left (y ∷ ys) zero j l = absurd (omega (arith, l))
  none_left (y ∷ ys) (suc i) j l = none_left ys i j (omega (arith, l))

-- a place of a list has what is looked up there
pub there_is : {A : Type 0} (xs : List A) (k : ℕ) (o : Option (Bor A)) → option_copied o ≡ slice_get xs k → k < length xs → (P : A → Type 0) → MatchOption o ⊤ (λ b. P b.now) → (x : A) × (slice_get xs k ≡ Some x) × P x
there_is xs k None h lt P m = absurd (get_none xs k lt (sym h))
there_is xs k (Some b) h lt P m = (b.now, sym h, m)
