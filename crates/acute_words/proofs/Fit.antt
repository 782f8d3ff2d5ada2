-- One more word that is tested.
use Rattle.std.proofs.Common.{◌≡◌, ◌<◌, ◌+◌, ◌&&◌, ℕ, zero, suc, Bool, refl, sym, ap, arith, drop, map, length, get_or, List, [], ◌∷◌, string_bytes, String}
use Rattle.std.specs.Borrow.{Bor}
use Rattle.std.specs.List.{list_all}
use Rattle.acute_words.specs.Form.{is_fit}
use Rattle.acute_words.specs.WordValues.{is_file}

-- the test of the words from i on is that of the word at i and of those after it
fit_there : {Z : Type 0} (xs : List (String Z)) (i : ℕ) (x : String Z) → i < length xs → x ≡ get_or xs i x
    → list_all is_fit (drop i (map string_bytes xs)) ≡ (is_fit (string_bytes x) && list_all is_fit (drop (suc i) (map string_bytes xs)))
fit_there {Z} [] i x lt at = absurd (omega arith)
fit_there {Z} (y ∷ ys) zero x lt at = ap (λ (z : String Z). is_fit (string_bytes z) && list_all is_fit (map string_bytes ys)) (sym at)
fit_there {Z} (y ∷ ys) (suc i) x lt at = fit_there ys i x (omega arith) at

-- the same, with the next number as the program has it
pub fit_at : {Z : Type 0} (xs : List (String Z)) (i : ℕ) (x : String Z) → i < length xs → x ≡ get_or xs i x
    → list_all is_fit (drop i (map string_bytes xs)) ≡ (is_fit (string_bytes x) && list_all is_fit (drop (i + 1) (map string_bytes xs)))
fit_at xs i x lt at =
    let next : i + 1 ≡ suc i = omega arith in rw next (fit_there xs i x lt at)

-- the same of names of files
file_there : (xs : List (Bor (List ℕ))) (i : ℕ) (d : Bor (List ℕ)) → i < length xs
    → list_all is_file (drop i (map (λ s. s.now) xs)) ≡ (is_file (get_or xs i d).now && list_all is_file (drop (suc i) (map (λ s. s.now) xs)))
file_there [] i d lt = absurd (omega arith)
file_there (y ∷ ys) zero d lt = refl
file_there (y ∷ ys) (suc i) d lt = file_there ys i d (omega arith)

pub file_at : (xs : List (Bor (List ℕ))) (i : ℕ) (d : Bor (List ℕ)) (b : Bool) → i < length xs → b ≡ is_file (get_or xs i d).now
    → list_all is_file (drop i (map (λ s. s.now) xs)) ≡ (b && list_all is_file (drop (i + 1) (map (λ s. s.now) xs)))
file_at xs i d b lt is =
    let next : i + 1 ≡ suc i = omega arith in rw (next, is) (file_there xs i d lt)
