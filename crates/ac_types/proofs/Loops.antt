-- Loops over lists: the next element of what is left, and a list that is built.
use Rattle.std.proofs.Common.{◌≡◌, ◌∙◌, ap, sym, ℕ, suc, ◌+◌, ◌<◌, List, [], ◌∷◌, ◌++◌, map, length, take, drop, get_or, add-one, drop-cons, append_assoc, append-nil}
use Rattle.std.proofs.Math.Seq.{take-suc, take-length, drop-length}
use Rattle.std.proofs.lemmas.List.{map-append}

pub drop_next : {A : Type 0} (i : ℕ) (xs : List A) (x : A) → i < length xs → x ≡ get_or xs i x → drop i xs ≡ x ∷ drop (i + 1) xs
drop_next i xs x h e = rw (add-one, drop-cons xs i x) (ap (λ y. y ∷ drop (suc i) xs) (sym e))

pub drop_end : {A : Type 0} (i : ℕ) (xs : List A) → i ≡ length xs → drop i xs ≡ []
drop_end i xs e = ap (λ n. drop n xs) e ∙ drop-length xs

pub take_next : {A : Type 0} (i : ℕ) (xs : List A) (x : A) → i < length xs → x ≡ get_or xs i x → take (i + 1) xs ≡ take i xs ++ x ∷ []
take_next i xs x h e = rw (add-one, take-suc xs i x) (ap (λ y. take i xs ++ y ∷ []) (sym e))

-- a list of what is made of each element
pub built : {A B C : Type 0} (g : A → C) (f : B → C) (old new : List A) (y : A) (i : ℕ) (xs : List B) (x : B)
    → map g old ≡ map f (take i xs) → i < length xs → x ≡ get_or xs i x → new ≡ old ++ y ∷ [] → g y ≡ f x → map g new ≡ map f (take (i + 1) xs)
built g f old new y i xs x so h is pushed made =
    ap (map g) pushed ∙ map-append g old (y ∷ []) ∙ ap (λ l. l ++ g y ∷ []) so ∙ ap (λ z. map f (take i xs) ++ z ∷ []) made
    ∙ sym (ap (map f) (take_next i xs x h is) ∙ map-append f (take i xs) (x ∷ []))

pub take_end : {A : Type 0} (i : ℕ) (xs : List A) → i ≡ length xs → take i xs ≡ xs
take_end i xs e = ap (λ n. take n xs) e ∙ take-length xs

pub built_all : {A B C : Type 0} (g : A → C) (f : B → C) (made : List A) (i : ℕ) (xs : List B) → i ≡ length xs → map g made ≡ map f (take i xs) → map g made ≡ map f xs
built_all g f made i xs e so = so ∙ ap (map f) (take_end i xs e)

-- a list that is lengthened by what is made of each part
pub lengthened : {A B : Type 0} (F : List A → List B) (h : A → List B) (law : (x : A) (xs : List A) → F (x ∷ xs) ≡ h x ++ F xs) (all old new : List B) (i : ℕ) (xs : List A) (x : A)
    → i < length xs → x ≡ get_or xs i x → all ≡ old ++ F (drop i xs) → new ≡ old ++ h x → all ≡ new ++ F (drop (i + 1) xs)
lengthened F h law all old new i xs x lt is so n =
    so ∙ ap (λ l. old ++ l) (ap F (drop_next i xs x lt is) ∙ law x (drop (i + 1) xs)) ∙ sym (append_assoc old (h x) (F (drop (i + 1) xs))) ∙ ap (λ l. l ++ F (drop (i + 1) xs)) (sym n)

pub lengthened_all : {A B : Type 0} (F : List A → List B) (all old : List B) (i : ℕ) (xs : List A) → F [] ≡ [] → i ≡ length xs → all ≡ old ++ F (drop i xs) → old ≡ all
lengthened_all F all old i xs none e so = sym (so ∙ ap (λ l. old ++ l) (ap F (drop_end i xs e) ∙ none) ∙ append-nil old)

-- what some elements come to behind others
pub next_fold : {A C R : Type 0} (G : C → List A → R) (join : C → A → C) (law : (k : C) (x : A) (xs : List A) → G k (x ∷ xs) ≡ G (join k x) xs) (all : R) (found new : C) (i : ℕ) (xs : List A) (x : A)
    → i < length xs → x ≡ get_or xs i x → G found (drop i xs) ≡ all → new ≡ join found x → G new (drop (i + 1) xs) ≡ all
next_fold G join law all found new i xs x lt is so n =
    ap (λ k. G k (drop (i + 1) xs)) n ∙ sym (law found x (drop (i + 1) xs)) ∙ ap (G found) (sym (drop_next i xs x lt is)) ∙ so

pub last_fold : {A C R : Type 0} (G : C → List A → R) (all : R) (found : C) (i : ℕ) (xs : List A) → i ≡ length xs → G found (drop i xs) ≡ all → G found [] ≡ all
last_fold G all found i xs e so = ap (G found) (sym (drop_end i xs e)) ∙ so
