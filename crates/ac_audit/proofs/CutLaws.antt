-- Behind a packet's entries stand those that were there.
use Rattle.std.proofs.Common.{◌≡◌, refl, sym, ap, ◌∙◌, ℕ, zero, suc, List, [], ◌∷◌, ◌++◌, map, length, take}
use Rattle.std.proofs.lemmas.List.{take_at}
use Rattle.ac_terms.specs.Defs.{Environment}
use Rattle.ac_terms.specs.Read.{environment_of, entry_of}
use Rattle.ac_terms.specs.Entries.{Entries}

map_take : {A B : Type 0} (f : A → B) (n : ℕ) (xs : List A) → map f (take n xs) ≡ take n (map f xs)
map_take f zero xs = refl
map_take f (suc n) [] = refl
map_take f (suc n) (x ∷ xs) = ap (λ l. f x ∷ l) (map_take f n xs)

pub map_length : {A B : Type 0} (f : A → B) (xs : List A) → length (map f xs) ≡ length xs
map_length f [] = refl
map_length f (x ∷ xs) = ap suc (map_length f xs)

pub cut_back : (old new after : Entries) (n : ℕ) (more : Environment) → environment_of new ≡ environment_of old ++ more → n ≡ length old.entries → after.entries ≡ take n new.entries → environment_of after ≡ environment_of old
cut_back old new after n more grown is cut =
    ap (map entry_of) cut ∙ map_take entry_of n new.entries ∙ ap (take n) grown ∙ take_at (environment_of old) more n (map_length entry_of old.entries ∙ sym is)
