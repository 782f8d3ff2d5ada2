-- The first of a list that fails a test, as it is read.
use Rattle.std.proofs.Common.{◌≡◌, refl, Bool, not, List, map}
use Rattle.std.specs.Prelude.{position}
use Rattle.ac_types.specs.Partial.{first_failing}
use Rattle.ac_terms.proofs.EnvLaws.{position-map}

pub first_failing-map : {A B : Type 0} (read : A → B) (test : B → Bool) (xs : List A) → first_failing test (map read xs) ≡ position (λ x. not (test (read x))) xs
first_failing-map read test xs = position-map read (λ y. not (test y)) (λ x. not (test (read x))) (λ x. refl) xs
