-- Laws of what holds of each item of a list.
use Rattle.std.proofs.Common.{◌≡◌, ℕ, zero, suc, List, [], ◌∷◌, ◌++◌, get_or, map, refl, ap₂}
use Rattle.ac_machine_engine.specs.Held.{EachHeld}

module _ {A : Type 0} where
  pub each_at : (P : A → Type 0) (xs : List A) (k : ℕ) (d : A) → P d → EachHeld P xs → P (get_or xs k d)
  each_at P [] k d e h = e
  each_at P (x ∷ xs) zero d e h = h.0
  each_at P (x ∷ xs) (suc k) d e h = each_at P xs k d e h.1

  pub each_more : (P Q : A → Type 0) (xs : List A) → ((x : A) → P x → Q x) → EachHeld P xs → EachHeld Q xs
  each_more P Q [] f h = tt
  each_more P Q (x ∷ xs) f h = (f x h.0, each_more P Q xs f h.1)

  pub each_push : (P : A → Type 0) (xs : List A) (x : A) → EachHeld P xs → P x → EachHeld P (xs ++ x ∷ [])
  each_push P [] x h p = (p, tt)
  each_push P (y ∷ xs) x h p = (h.0, each_push P xs x h.1 p)

  -- two functions that agree on each item make the same list
  pub each_map : {B : Type 0} (P : A → Type 0) (f g : A → B) (xs : List A) → ((x : A) → P x → f x ≡ g x) → EachHeld P xs → map f xs ≡ map g xs
  each_map P f g [] e h = refl
  each_map {B} P f g (x ∷ xs) e h = ap₂ (λ (y : B) (ys : List B). y ∷ ys) (e x h.0) (each_map P f g xs e h.1)
