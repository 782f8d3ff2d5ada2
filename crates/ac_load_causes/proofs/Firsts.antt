-- The first of entries at which something is found.
use Rattle.std.proofs.Common.{◌≡◌, ◌∙◌, ◌<◌, ◌+◌, ◌-◌, sym, ap, subst, ℕ, zero, suc, Bool, true, List, [], ◌∷◌, length, take, drop, map, get_or, Option, Some, None, arith, add-one}
use Rattle.std.specs.List.{list_all}
use Rattle.std.specs.Option.{option_or}
use Rattle.std.proofs.Math.Seq.{take-length}
use Rattle.std.proofs.lemmas.List.{length-drop, take-append-drop, drop-map}
use Rattle.ac_types.proofs.Loops.{drop_next, drop_end}
use Rattle.ac_types.proofs.Same.{both_true}
use Rattle.ac_terms.specs.Defs.{Entry}
use Rattle.ac_terms.specs.declared.def.Entry as code
use Rattle.ac_terms.specs.Read.{entry_of}
use Rattle.ac_terms.proofs.AllLaws.{all_right}
use Rattle.ac_load_rules.specs.Causes.{first_at}
use Rattle.ac_load_rules.proofs.Firsts.{else_none, else_some}

-- what holds of all holds of one
pub all_at : {X A : Type 0} (read : X → A) (p : A → Bool) (xs : List X) (i : ℕ) (x : X) → list_all p (map read xs) ≡ true → i < length xs → x ≡ get_or xs i x → p (read x) ≡ true
all_at read p [] i x h lt is = absurd (omega (arith, lt))
all_at {X} read p (y ∷ xs) zero x h lt is = subst (λ (z : X). p (read z) ≡ true) (sym is) (both_true (p (read y)) _ h).0
all_at read p (y ∷ xs) (suc i) x h lt is = all_at read p xs i x (both_true (p (read y)) _ h).1 (omega (arith, lt)) is

-- the rest of a slice
whole_rest : {A : Type 0} (xs : List A) (n : ℕ) → take (length xs - n) (drop n xs) ≡ drop n xs
whole_rest xs n = ap (λ (k : ℕ). take k (drop n xs)) (sym (length-drop n xs)) ∙ take-length (drop n xs)

pub rest_read : (all xs : List code.Entry) (n : ℕ) → xs ≡ all → map entry_of (take (length xs - n) (drop n xs)) ≡ drop n (map entry_of all)
rest_read all xs n e = ap (map entry_of) (whole_rest xs n) ∙ sym (drop-map entry_of n xs) ∙ ap (λ (l : List code.Entry). drop n (map entry_of l)) e

drop_all : (p : Entry → Bool) (xs : List Entry) (n : ℕ) → list_all p xs ≡ true → list_all p (drop n xs) ≡ true
drop_all p xs n h = all_right p (take n xs) (drop n xs) (ap (list_all p) (take-append-drop n xs) ∙ h)

pub rest_counted : (p : Entry → Bool) (all xs : List code.Entry) (n : ℕ) → xs ≡ all → list_all p (map entry_of all) ≡ true → list_all p (map entry_of (take (length xs - n) (drop n xs))) ≡ true
rest_counted p all xs n e h = ap (list_all p) (rest_read all xs n e) ∙ drop_all p (map entry_of all) n h

-- along a list that is read
module _ {X A : Type 0} (read : X → Entry) (f : ℕ → Entry → Option A) (xs : List X) where
  abbrev from_there : ℕ → ℕ → Option A
  from_there k i = first_at k f (map read (drop i xs))

  here : (k i : ℕ) (x : X) → i < length xs → x ≡ get_or xs i x → from_there k i ≡ option_or (f k (read x)) (from_there (k + 1) (i + 1))
  here k i x lt is = rw (add-one k) (ap (λ ys. first_at k f (map read ys)) (drop_next i xs x lt is))

  pub at_next : (all : Option A) (k i : ℕ) (x : X) → i < length xs → x ≡ get_or xs i x → all ≡ from_there k i → f k (read x) ≡ None → all ≡ from_there (k + 1) (i + 1)
  at_next all k i x lt is so none = so ∙ here k i x lt is ∙ else_none (f k (read x)) _ none

  pub at_here : (all : Option A) (k i : ℕ) (x : X) (a : A) → i < length xs → x ≡ get_or xs i x → all ≡ from_there k i → f k (read x) ≡ Some a → all ≡ Some a
  at_here all k i x a lt is so some = so ∙ here k i x lt is ∙ else_some (f k (read x)) _ a some

  pub at_end : (all : Option A) (k i : ℕ) → i ≡ length xs → all ≡ from_there k i → all ≡ None
  at_end all k i e so = so ∙ ap (λ ys. first_at k f (map read ys)) (drop_end i xs e)
