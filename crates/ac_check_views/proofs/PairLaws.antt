-- Two lists of types, compared in order.
use Rattle.std.proofs.Common.{ℕ, suc, ◌≡◌, ◌+◌, ◌<◌, refl, ap, ◌∙◌, Bool, true, false, ◌&&◌, List, [], ◌∷◌, length, map, get_or, drop, drop-cons, add-one}
use Rattle.std.proofs.Math.Seq.{drop-length}
use Rattle.ac_types.specs.Types.{Typ, typs, same, same_all}

-- a list from one of its items on
pub from_item : {A : Type 0} (xs : List A) (i : ℕ) (x : A) → i < length xs → x ≡ get_or xs i x → drop i xs ≡ x ∷ drop (i + 1) xs
from_item xs i x h e = rw (add-one, drop-cons xs i x, ← e)

pub from_end : {A : Type 0} (xs : List A) (i : ℕ) → i ≡ length xs → drop i xs ≡ []
from_end xs i e = ap (λ n. drop n xs) e ∙ drop-length xs

module _ {A B : Type 0} (f : A → Typ) (g : B → Typ) where
  -- whether the types of two lists are the same
  abbrev pub alike : List A → List B → Bool
  alike xs ys = same_all (typs (map f xs)) (typs (map g ys))

  and_false : (b c : Bool) → c ≡ false → (b && c) ≡ false
  and_false true c e = e
  and_false false c e = refl

  pub unlike_lengths : (xs : List A) (ys : List B) → (length xs ≡ length ys → ⊥) → alike xs ys ≡ false
  unlike_lengths [] [] h = absurd (h refl)
  unlike_lengths [] (y ∷ ys) h = refl
  unlike_lengths (x ∷ xs) [] h = refl
  unlike_lengths (x ∷ xs) (y ∷ ys) h = and_false (same (f x) (g y)) (alike xs ys) (unlike_lengths xs ys (λ e. h (ap suc e)))
