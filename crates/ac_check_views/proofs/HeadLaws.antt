-- Rounds that change nothing, and one round after another.
use Rattle.std.proofs.Common.{ℕ, zero, suc, ◌≡◌, ◌+◌, ◌-◌, ◌<◌, refl, ap, ◌∙◌, arith}
use Rattle.ac_types.specs.Types.{Typ}
use Rattle.ac_rules.specs.Views.{rounds}

pub rounds_still : (k : ℕ) (f : Typ → Typ) (T : Typ) → f T ≡ T → rounds k f T ≡ T
rounds_still zero f T e = refl
rounds_still (suc k) f T e = ap (rounds k f) e ∙ rounds_still k f T e

pub next_round : (n i : ℕ) (f : Typ → Typ) (T : Typ) → i < n → rounds (n - i) f T ≡ rounds (n - (i + 1)) f (f T)
next_round n i f T l =
    let e : n - i ≡ suc (n - (i + 1)) = omega arith in
    ap (λ (k : ℕ). rounds k f T) e
