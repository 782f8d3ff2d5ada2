-- Ranges and atoms taken off together: too few atoms, and atoms that are left over.
use Rattle.std.proofs.Common.{◌≡◌, ◌<◌, ◌≤◌, ◌&&◌, ℕ, zero, suc, Bool, true, false, List, [], ◌∷◌, length, drop, map, refl, sym, ◌∙◌, arith, nat_eq}
use Rattle.std.proofs.lemmas.Bool.Decides.{nat_tests}
use Rattle.ac_types.specs.Sigs.{Atom, Range}
use Rattle.ac_version.specs.Versions.{fits, atoms_fit}

and_false : (b c : Bool) → false ≡ c → false ≡ (b && c)
and_false true c e = e
and_false false c e = refl

module _ {A B : Type 0} (f : A → Range) (g : B → Atom) where
  -- with fewer atoms than ranges nothing fits
  pub too_few : (rs : List A) (star : Bool) (xs : List B) → length xs < length rs → false ≡ atoms_fit (map f rs) star (map g xs)
  too_few [] star xs h = absurd (omega arith)
  too_few (r ∷ rs) star [] h = refl
  too_few (r ∷ rs) star (x ∷ xs) h = and_false (fits (f r) (g x)) (atoms_fit (map f rs) star (map g xs)) (too_few rs star xs (omega arith))

  -- without a star no atom is left over
  pub left_over : (i : ℕ) (rs : List A) (star : Bool) (xs : List B) → star ≡ false → i ≡ length rs → length rs ≤ length xs → nat_eq (length xs) (length rs) ≡ atoms_fit (map f (drop i rs)) star (map g (drop i xs))
  left_over zero [] star [] s e h = grind (arith, nat_tests)
  left_over zero [] star (x ∷ xs) s e h = grind (arith, nat_tests) ∙ sym s
  left_over zero (r ∷ rs) star xs s e h = absurd (omega arith)
  left_over (suc i) [] star xs s e h = absurd (omega arith)
  left_over (suc i) (r ∷ rs) star [] s e h = absurd (omega arith)
  left_over (suc i) (r ∷ rs) star (x ∷ xs) s e h = same_eq (length xs) (length rs) ∙ left_over i rs star xs s (omega arith) (omega arith)
    where
      same_eq : (n m : ℕ) → nat_eq (suc n) (suc m) ≡ nat_eq n m
      same_eq n m = grind (arith, nat_tests)
