-- What is told where all is.
use Rattle.std.proofs.Common.{Bool, true, false, IsTrue, refl}
use Rattle.std.specs.Prelude.{◌&&◌}

pub first_told : (a b : Bool) → IsTrue (a && b) → IsTrue a
first_told true b told = refl
first_told false b told = absurd cc
