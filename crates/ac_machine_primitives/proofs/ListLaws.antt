-- Laws of items of lists.
use Rattle.std.proofs.Common.{◌≡◌, ℕ, zero, suc, ◌<◌, ◌≤◌, ◌+◌, List, [], ◌∷◌, ◌++◌, length, get_or, drop, refl, ap, ◌∙◌, sym, arith, length-append}

pub length_one_more : {A : Type 0} (xs ys : List A) (x : A) → ys ≡ xs ++ x ∷ [] → length ys ≡ length xs + 1
length_one_more xs ys x e = rw e (length-append xs (x ∷ []))

pub next_at : {X : Type 0} (xs : List X) (i : ℕ) (d : X) → i < length xs → drop i xs ≡ get_or xs i d ∷ drop (i + 1) xs
next_at [] i d h = absurd (omega arith)
next_at (y ∷ xs) zero d h = refl
next_at (y ∷ xs) (suc i) d h = let s : suc i + 1 ≡ suc (i + 1) = omega arith in next_at xs i d (omega arith) ∙ ap (λ n. get_or xs i d ∷ drop n (y ∷ xs)) (sym s)

pub drop_past : {X : Type 0} (xs : List X) (i : ℕ) → length xs ≤ i → drop i xs ≡ []
drop_past [] zero h = refl
drop_past [] (suc i) h = refl
drop_past (x ∷ xs) zero h = absurd (omega arith)
drop_past (x ∷ xs) (suc i) h = drop_past xs i (omega arith)
