-- The first of a list that passes.
use Rattle.std.proofs.Common.{◌≡◌, refl, sym, ap, ◌∙◌, ℕ, zero, suc, ◌+◌, ◌<◌, Bool, true, false, not, cond, nat_lt, ◌||◌, List, [], ◌∷◌, ◌++◌, length, take, Option, Some, None}
use Rattle.std.specs.Prelude.{position, option_map}
use Rattle.std.specs.Option.{is_some, option_or}
use Rattle.std.specs.List.{position_or_len, list_any}
use Rattle.std.proofs.lemmas.Bool.Decides.{nat_tests}
use native.Mathlib.Omega.{arith}
use mathlib.Core.Bool.{true≢false}
use Rattle.ac_types.proofs.FirstLaws.{none≢some, some_eq}
use Rattle.ac_types.specs.Partial.{given}
use Rattle.ac_index.specs.Noted.{but, forgetting, is_before}
use Rattle.ac_index.proofs.NotedLaws.{or_none, self_eq, but_other}

-- a step at a time
lt-zero : (n : ℕ) → nat_lt 0 (suc n) ≡ true
lt-zero n = grind (arith, nat_tests)

lt-suc : (k n : ℕ) (b : Bool) → nat_lt k n ≡ b → nat_lt (1 + k) (suc n) ≡ b
lt-suc k n true e = grind (arith, nat_tests)
lt-suc k n false e = grind (arith, nat_tests)

pub position-first : {A : Type 0} (p : A → Bool) (x : A) (xs : List A) → p x ≡ true → position p (x ∷ xs) ≡ Some 0
position-first p x xs e =
    ap (λ b. cond (nat_lt (cond (not b) (1 + position_or_len p xs) 0) (suc (length xs))) (Some (cond (not b) (1 + position_or_len p xs) 0)) None) e ∙
    ap (λ b. cond b (Some 0) None) (lt-zero (length xs))

pub position-later : {A : Type 0} (p : A → Bool) (x : A) (xs : List A) → p x ≡ false → position p (x ∷ xs) ≡ option_map suc (position p xs)
position-later p x xs e =
    ap (λ b. cond (nat_lt (cond (not b) (1 + position_or_len p xs) 0) (suc (length xs))) (Some (cond (not b) (1 + position_or_len p xs) 0)) None) e ∙
    by (position_or_len p xs) (length xs) (nat_lt (position_or_len p xs) (length xs)) refl
  where
    by : (k n : ℕ) (b : Bool) → nat_lt k n ≡ b → cond (nat_lt (1 + k) (suc n)) (Some (1 + k)) None ≡ option_map suc (cond (nat_lt k n) (Some k) None)
    by k n true e = ap (λ b. cond b (Some (1 + k)) None) (lt-suc k n true e) ∙ ap Some (omega arith) ∙ ap (λ b. option_map suc (cond b (Some k) None)) (sym e)
    by k n false e = ap (λ b. cond b (Some (1 + k)) None) (lt-suc k n false e) ∙ ap (λ b. option_map suc (cond b (Some k) None)) (sym e)

-- with one more at the end
pub position_more : {A : Type 0} (p : A → Bool) (xs : List A) (x : A) → position p (xs ++ x ∷ []) ≡ option_or (position p xs) (given (p x) (Some (length xs)))
position_more p [] x = by (p x) refl
  where
    by : (b : Bool) → p x ≡ b → position p (x ∷ []) ≡ given b (Some 0)
    by true e = position-first p x [] e
    by false e = position-later p x [] e
position_more p (y ∷ ys) x = by (position_more p ys x) (p y) refl
  where
    later : (o : Option ℕ) (b : Bool) → option_map suc (option_or o (given b (Some (length ys)))) ≡ option_or (option_map suc o) (given b (Some (suc (length ys))))
    later None true = refl
    later None false = refl
    later (Some k) b = refl

    by : position p (ys ++ x ∷ []) ≡ option_or (position p ys) (given (p x) (Some (length ys))) → (b : Bool) → p y ≡ b →
        position p (y ∷ (ys ++ x ∷ [])) ≡ option_or (position p (y ∷ ys)) (given (p x) (Some (suc (length ys))))
    by h true e = position-first p y (ys ++ x ∷ []) e ∙ ap (λ o. option_or o (given (p x) (Some (suc (length ys))))) (sym (position-first p y ys e))
    by h false e =
        position-later p y (ys ++ x ∷ []) e ∙ ap (option_map suc) h ∙ later (position p ys) (p x)
        ∙ ap (λ o. option_or o (given (p x) (Some (suc (length ys))))) (sym (position-later p y ys e))

-- it is within the list
pub position_below : {A : Type 0} (p : A → Bool) (xs : List A) (i : ℕ) → position p xs ≡ Some i → i < length xs
position_below p xs i e = by (position_or_len p xs) (nat_lt (position_or_len p xs) (length xs)) refl e
  where
    by : (k : ℕ) (b : Bool) → nat_lt k (length xs) ≡ b → cond b (Some k) None ≡ Some i → i < length xs
    by k true h s = let same = some_eq s in grind (arith, nat_tests)
    by k false h s = absurd (none≢some s)

pub position_within : {A : Type 0} (p : A → Bool) (xs : List A) → position p xs ≡ Some (length xs) → ⊥
position_within p xs e = let h = position_below p xs (length xs) e in omega (arith, h)

-- with the last left out: a test that lets it pass lets its number be forgotten
pub position_less : {A : Type 0} (p : A → Bool) (t : Bool) (xs : List A) (x : A) → (p x ≡ true → t ≡ true) →
    forgetting t (length xs) (position p (xs ++ x ∷ [])) ≡ position p xs
position_less p t xs x h = ap (forgetting t (length xs)) (position_more p xs x) ∙ on t refl (p x) refl
  where
    kept : (s : Bool) → forgetting s (length xs) (position p xs) ≡ position p xs
    kept true = but_other (length xs) (position p xs) (position_within p xs)
    kept false = refl

    gone : (o : Option ℕ) → but (length xs) o ≡ o → but (length xs) (option_or o (Some (length xs))) ≡ o
    gone None e = ap (λ b. cond b None (Some (length xs))) (self_eq (length xs))
    gone (Some j) e = e

    on : (s : Bool) → t ≡ s → (b : Bool) → p x ≡ b → forgetting s (length xs) (option_or (position p xs) (given b (Some (length xs)))) ≡ position p xs
    on true i true e = gone (position p xs) (kept true)
    on true i false e = ap (but (length xs)) (or_none (position p xs)) ∙ kept true
    on false i true e = absurd (true≢false (sym (h e) ∙ i))
    on false i false e = or_none (position p xs)

-- some item passes
pub position_any : {A : Type 0} (p : A → Bool) (xs : List A) → is_some (position p xs) ≡ list_any p xs
position_any p [] = refl
position_any p (x ∷ xs) = by (position_any p xs) (p x) refl
  where
    mapped : (o : Option ℕ) → is_some (option_map suc o) ≡ is_some o
    mapped None = refl
    mapped (Some k) = refl

    by : is_some (position p xs) ≡ list_any p xs → (b : Bool) → p x ≡ b → is_some (position p (x ∷ xs)) ≡ (p x || list_any p xs)
    by h true e = ap is_some (position-first p x xs e) ∙ sym (ap (λ b. b || list_any p xs) e)
    by h false e = ap is_some (position-later p x xs e) ∙ mapped (position p xs) ∙ h ∙ sym (ap (λ b. b || list_any p xs) e)

-- some item before number n passes
pub position_before : {A : Type 0} (p : A → Bool) (n : ℕ) (xs : List A) → list_any p (take n xs) ≡ is_before n (position p xs)
position_before p zero [] = refl
position_before p (suc n) [] = refl
position_before p zero (x ∷ xs) = sym (none (position p (x ∷ xs)))
  where
    none : (o : Option ℕ) → is_before 0 o ≡ false
    none None = refl
    none (Some i) = grind (arith, nat_tests)
position_before p (suc n) (x ∷ xs) = by (position_before p n xs) (p x) refl
  where
    step : (i : ℕ) (b : Bool) → nat_lt i n ≡ b → nat_lt (suc i) (suc n) ≡ b
    step i true h = grind (arith, nat_tests)
    step i false h = grind (arith, nat_tests)

    later : (o : Option ℕ) → is_before (suc n) (option_map suc o) ≡ is_before n o
    later None = refl
    later (Some i) = step i (nat_lt i n) refl

    by : list_any p (take n xs) ≡ is_before n (position p xs) → (b : Bool) → p x ≡ b → (p x || list_any p (take n xs)) ≡ is_before (suc n) (position p (x ∷ xs))
    by h true e = ap (λ b. b || list_any p (take n xs)) e ∙ sym (lt-zero n) ∙ sym (ap (is_before (suc n)) (position-first p x xs e))
    by h false e =
        ap (λ b. b || list_any p (take n xs)) e ∙ h ∙ sym (later (position p xs))
        ∙ sym (ap (is_before (suc n)) (position-later p x xs e))
