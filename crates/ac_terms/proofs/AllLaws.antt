-- Lists of which each item passes a test.
use Rattle.std.proofs.Common.{◌≡◌, refl, sym, ◌∙◌, Bool, true, ◌&&◌, List, [], ◌∷◌, ◌++◌}
use Rattle.std.specs.List.{list_all}
use Rattle.std.proofs.lemmas.List.Folds.{list_all-append}
use Rattle.ac_types.proofs.Same.{both_true, and_true}

-- two lists one after the other
pub all_left : {A : Type 0} (p : A → Bool) (xs ys : List A) → list_all p (xs ++ ys) ≡ true → list_all p xs ≡ true
all_left p xs ys h = (both_true (list_all p xs) (list_all p ys) (sym (list_all-append p xs ys) ∙ h)).0

pub all_right : {A : Type 0} (p : A → Bool) (xs ys : List A) → list_all p (xs ++ ys) ≡ true → list_all p ys ≡ true
all_right p xs ys h = (both_true (list_all p xs) (list_all p ys) (sym (list_all-append p xs ys) ∙ h)).1

pub all_append : {A : Type 0} (p : A → Bool) (xs ys : List A) → list_all p xs ≡ true → list_all p ys ≡ true → list_all p (xs ++ ys) ≡ true
all_append p xs ys a b = list_all-append p xs ys ∙ and_true {a = list_all p xs} {b = list_all p ys} a b

-- two tests
pub all_and : {A : Type 0} (p q : A → Bool) (xs : List A) → list_all p xs ≡ true → list_all q xs ≡ true → list_all (λ x. p x && q x) xs ≡ true
all_and p q [] a b = refl
all_and p q (x ∷ xs) a b =
    let u = both_true (p x) (list_all p xs) a in
    let v = both_true (q x) (list_all q xs) b in
    and_true {a = p x && q x} {b = list_all (λ y. p y && q y) xs} (and_true {a = p x} {b = q x} u.0 v.0) (all_and p q xs u.1 v.1)

-- one test, and another that follows from it
pub all_implies : {A : Type 0} (p q : A → Bool) → ((x : A) → p x ≡ true → q x ≡ true) → (xs : List A) → list_all p xs ≡ true → list_all q xs ≡ true
all_implies p q f [] h = refl
all_implies p q f (x ∷ xs) h =
    let r = both_true (p x) (list_all p xs) h in
    and_true {a = q x} {b = list_all q xs} (f x r.0) (all_implies p q f xs r.1)

pub all_true : {A : Type 0} (xs : List A) → list_all (λ x. true) xs ≡ true
all_true [] = refl
all_true (x ∷ xs) = all_true xs
