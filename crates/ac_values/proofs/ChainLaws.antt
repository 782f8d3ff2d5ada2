-- Laws of lists that share their tails.
use Rattle.std.proofs.Common.{◌≡◌, ◌⊎◌, inl, inr, ℕ, zero, suc, ◌<◌, ◌≤◌, ◌+◌, List, [], ◌∷◌, ◌++◌, Some, None, slice_get, slice_set, length, get_or, take, refl, sym, ap, arith, length-append, subst, ◌-◌, ◌∙◌}
use Rattle.ac_values.specs.declared.chain.Cell.{Cell}
use Rattle.ac_values.proofs.BuiltLaws.{built-push, length-built, built-keeps, built-at, built-take}
use Rattle.ac_values.specs.Building.{built}
use Rattle.ac_values.specs.inner.Chains.{list_of, lists, AreEarlier}

pub length_lists : {T : Type 0} (cs : List (Cell T)) → length (lists cs) ≡ suc (length cs)
unfolding lists
length_lists cs = omega (arith, length-built list_of ([] ∷ []) cs)

pub lists_push : {T : Type 0} (cs : List (Cell T)) (c : Cell T) → lists (cs ++ c ∷ []) ≡ lists cs ++ (c.item ∷ get_or (lists cs) c.below []) ∷ []
unfolding lists
lists_push cs c = built-push list_of ([] ∷ []) cs c

pub lists_none : {T : Type 0} → lists {T = T} [] ≡ [] ∷ []
unfolding lists
lists_none = refl

pub list_zero : {T : Type 0} (cs : List (Cell T)) → get_or (lists cs) 0 [] ≡ []
unfolding lists
list_zero cs = built-keeps list_of ([] ∷ []) cs 0 [] (omega arith)

-- a list is the item of its cell on the rest
pub list_at : {T : Type 0} (cs : List (Cell T)) (k : ℕ) (c : Cell T) → AreEarlier cs → slice_get cs k ≡ Some c → get_or (lists cs) (suc k) [] ≡ c.item ∷ get_or (lists cs) c.below []
unfolding lists
list_at {T} cs k c o e =
    let first : (j : ℕ) → 1 + j ≡ suc j = λ j. omega arith in
    subst (λ i. get_or (lists cs) i [] ≡ c.item ∷ get_or (lists cs) c.below []) (first k)
    (built-at list_of (λ n c. c.below < n) []
    (λ bs cs n c h near. ap (λ (l : List T). c.item ∷ l) (near c.below h))
    ([] ∷ []) cs k c (λ j x h. subst (λ i. x.below < i) (sym (first j)) (o j x h)) e)

-- a list that isn't empty has a cell
pub cell_at : {T : Type 0} (cs : List (Cell T)) (k : ℕ) (c : Cell T) → AreEarlier cs → slice_get cs k ≡ Some c → (n : ℕ) → n ≡ suc k → (c.below < n) × (get_or (lists cs) n [] ≡ c.item ∷ get_or (lists cs) c.below [])
cell_at {T} cs k c o e n s =
    subst (λ i. (c.below < i) × (get_or (lists cs) i [] ≡ c.item ∷ get_or (lists cs) c.below [])) (sym s) (o k c e, list_at cs k c o e)

pub push_cases : {T : Type 0} (cs : List T) (d : T) (k : ℕ) (c : T) → slice_get (cs ++ d ∷ []) k ≡ Some c → (slice_get cs k ≡ Some c) ⊎ ((k ≡ length cs) × (d ≡ c))
push_cases [] d zero c e = inr (refl, cc)
push_cases [] d (suc k) c e = absurd (cc)
push_cases (x ∷ xs) d zero c e = inl e
push_cases (x ∷ xs) d (suc k) c e =
    elim (push_cases xs d k c e) [ inl h ↦ inl h | inr h ↦ inr (ap suc h.0, h.1) ]

pub earlier_push : {T : Type 0} (cs : List (Cell T)) (d : Cell T) → AreEarlier cs → d.below < length (lists cs) → AreEarlier (cs ++ d ∷ [])
earlier_push cs d o h k c e =
    elim (push_cases cs d k c e) [
      | inl i ↦ o k c i
      | inr i ↦ let l = length_lists cs in let n : k ≡ length cs = i.0 in let b : d.below < suc k = omega (arith, l) in subst (λ z. z.below < suc k) i.1 b
    ]

pub none_past : {T : Type 0} (cs : List T) (k : ℕ) → slice_get cs k ≡ None → length cs ≤ k
none_past [] k e = omega arith
none_past (x ∷ xs) zero e = absurd (cc)
none_past (x ∷ xs) (suc k) e = omega (arith, none_past xs k e)

pub length_pushed : {T : Type 0} (cs : List (Cell T)) (d : Cell T) → length (cs ++ d ∷ []) ≡ length (lists cs)
length_pushed cs d = let l = length_lists cs in omega (arith, l, length-append cs (d ∷ []))

-- the first lists are those of the first cells
pub lists_take : {T : Type 0} (cs : List (Cell T)) (n : ℕ) → 0 < n → lists (take (n - 1) cs) ≡ take n (lists cs)
unfolding lists
lists_take cs n h =
    let all : 1 + (n - 1) ≡ n = omega arith in
    built-take list_of ([] ∷ []) cs (n - 1) ∙ ap (λ k. take k (built list_of ([] ∷ []) cs)) all

slice_get_take : {T : Type 0} (cs : List T) (n k : ℕ) (c : T) → slice_get (take n cs) k ≡ Some c → slice_get cs k ≡ Some c
slice_get_take [] zero k c e = e
slice_get_take [] (suc n) k c e = e
slice_get_take (x ∷ xs) zero k c e = absurd (cc)
slice_get_take (x ∷ xs) (suc n) zero c e = e
slice_get_take (x ∷ xs) (suc n) (suc k) c e = slice_get_take xs n k c e

pub earlier_take : {T : Type 0} (cs : List (Cell T)) (n : ℕ) → AreEarlier cs → AreEarlier (take n cs)
earlier_take cs n o k c e = o k c (slice_get_take cs n k c e)

taken : {A : Type 0} (xs : List A) (n : ℕ) → n ≤ length xs → length (take n xs) ≡ n
taken [] zero h = refl
taken [] (suc n) h = absurd (omega arith)
taken (x ∷ xs) zero h = refl
taken (x ∷ xs) (suc n) h = ap suc (taken xs n (omega arith))

pub counted : {T : Type 0} (cs : List (Cell T)) (n : ℕ) → n ≤ length cs → length (lists (take n cs)) ≡ n + 1
counted cs n h = let l = length_lists (take n cs) in let m = taken cs n h in omega (arith, l, m)

pub item_of_taken : {A : Type 0} (xs : List A) (n k : ℕ) → k < n → slice_get (take n xs) k ≡ slice_get xs k
item_of_taken [] zero k h = absurd (omega arith)
item_of_taken [] (suc n) k h = refl
item_of_taken (x ∷ xs) zero k h = absurd (omega arith)
item_of_taken (x ∷ xs) (suc n) zero h = refl
item_of_taken (x ∷ xs) (suc n) (suc k) h = item_of_taken xs n k (omega arith)

take_again : {A : Type 0} (xs : List A) (m n : ℕ) → m ≤ n → take m (take n xs) ≡ take m xs
take_again [] zero zero h = refl
take_again [] zero (suc n) h = refl
take_again [] (suc m) zero h = absurd (omega arith)
take_again [] (suc m) (suc n) h = refl
take_again (x ∷ xs) zero zero h = refl
take_again (x ∷ xs) zero (suc n) h = refl
take_again (x ∷ xs) (suc m) zero h = absurd (omega arith)
take_again (x ∷ xs) (suc m) (suc n) h = ap (λ l. x ∷ l) (take_again xs m n (omega arith))

take_all : {A : Type 0} (xs : List A) (n : ℕ) → length xs ≤ n → take n xs ≡ xs
take_all [] zero h = refl
take_all [] (suc n) h = refl
take_all (x ∷ xs) zero h = absurd (omega arith)
take_all (x ∷ xs) (suc n) h = ap (λ l. x ∷ l) (take_all xs n (omega arith))

-- fewer lists are those of fewer cells
pub fewer : {T : Type 0} (cs : List (Cell T)) (n k : ℕ) → 0 < k → k - 1 < n → lists (take (k - 1) cs) ≡ take k (lists (take n cs))
fewer cs n k h l = ap lists (sym (take_again cs (k - 1) n (omega arith))) ∙ lists_take (take n cs) k h

pub no_fewer : {T : Type 0} (cs : List (Cell T)) (n k : ℕ) → n ≤ length cs → n ≤ k - 1 → 0 < k → lists (take n cs) ≡ take k (lists (take n cs))
no_fewer cs n k m h l = sym (take_all (lists (take n cs)) k (let e = counted cs n m in omega (arith, e)))

-- a cell behind all of them, and one in the place of another
push_next : {T : Type 0} (cs : List T) (c : T) → take (suc (length cs)) (cs ++ c ∷ []) ≡ take (length cs) cs ++ c ∷ []
push_next [] c = refl
push_next (x ∷ xs) c = ap (λ l. x ∷ l) (push_next xs c)

set_next : {T : Type 0} (cs : List T) (n : ℕ) (c : T) → n < length cs → take (suc n) (slice_set cs n c) ≡ take n cs ++ c ∷ []
set_next [] n c h = absurd (omega arith)
set_next (x ∷ xs) zero c h = refl
set_next (x ∷ xs) (suc n) c h = ap (λ l. x ∷ l) (set_next xs n c (omega arith))

pub take_set : {T : Type 0} (cs : List T) (n : ℕ) (c : T) → n < length cs → take (n + 1) (slice_set cs n c) ≡ take n cs ++ c ∷ []
take_set cs n c h = let e : n + 1 ≡ suc n = omega arith in ap (λ k. take k (slice_set cs n c)) e ∙ set_next cs n c h

pub take_pushed : {T : Type 0} (cs ds : List T) (n : ℕ) (c : T) → ds ≡ cs ++ c ∷ [] → n ≡ length cs → take (n + 1) ds ≡ take n cs ++ c ∷ []
take_pushed cs ds n c d e = let f : n + 1 ≡ suc (length cs) = omega (arith, e) in ap (λ l. take (n + 1) l) d ∙ ap (λ k. take k (cs ++ c ∷ [])) f ∙ push_next cs c ∙ ap (λ k. take k cs ++ c ∷ []) (sym e)

pub ruleset write_laws = (take_set, take_pushed)

pub ruleset push_laws = (lists_push, length_lists, earlier_push, length_pushed, counted)

pub ruleset top_laws = (list_zero, none_past, cell_at, length_lists, counted, item_of_taken)

pub ruleset len_laws = (list_zero, length_lists, counted)

pub ruleset truncate_laws = (fewer, no_fewer, earlier_take, lists_take)
