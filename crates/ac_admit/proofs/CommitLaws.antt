-- Entries that are put behind others, from a list that has them in reverse.
use Rattle.std.proofs.Common.{◌≡◌, refl, sym, ap, ◌∙◌, ◌≤◌, ◌+◌, List, [], ◌∷◌, ◌++◌, length, take, reverse, append_assoc, length-append}
use Rattle.std.proofs.lemmas.List.{reverse-append, reverse-reverse, take-append-le, take_at}

pub all_left : {A : Type 0} (here left more : List A) → left ≡ reverse more → here ++ reverse left ≡ here ++ more
all_left here left more e = ap (λ xs. here ++ xs) (ap reverse e ∙ reverse-reverse more)

pub one_longer : {A : Type 0} (here more : List A) (e : A) → more ≡ here ++ e ∷ [] → length more ≡ length here + 1
one_longer here more e m = ap length m ∙ length-append here (e ∷ [])

pub one_over : {A : Type 0} (here more left rest all : List A) (e : A) → more ≡ here ++ e ∷ [] → left ≡ rest ++ e ∷ [] → here ++ reverse left ≡ all → more ++ reverse rest ≡ all
one_over here more left rest all e m l h =
    ap (λ xs. xs ++ reverse rest) m ∙ append_assoc here (e ∷ []) (reverse rest)
    ∙ sym (ap (λ xs. here ++ xs) (ap reverse l ∙ reverse-append rest (e ∷ []))) ∙ h

pub cut_back : {A : Type 0} (here old left more : List A) → here ++ reverse left ≡ old ++ more → length old ≤ length here → take (length old) here ≡ old
cut_back here old left more h l =
    sym (take-append-le (length old) here (reverse left) l) ∙ ap (take (length old)) h ∙ take_at old more (length old) refl
