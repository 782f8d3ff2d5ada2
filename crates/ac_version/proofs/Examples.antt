-- Which versions meet which constraints, computed.
use Rattle.std.proofs.Common.{◌≡◌, refl}
use Rattle.std.specs.Prelude.{true, false, [], ◌∷◌}
use Rattle.ac_types.specs.Sigs.{Number, MyName, One, Between, UpTo, From, Constraint, Ranges, Exact}
use Rattle.ac_version.specs.Versions.{meets}

-- `1.2-4.*`
abbrev some_range : Constraint
some_range = Ranges (One 1 ∷ Between 2 4 ∷ []) true

-- 1.2 and 1.4.9 meet it, 1.5 and 2.3 don't
pub meets_low : meets (Number 1 ∷ Number 2 ∷ []) some_range [] ≡ true
meets_low = refl

pub meets_long : meets (Number 1 ∷ Number 4 ∷ Number 9 ∷ []) some_range [] ≡ true
meets_long = refl

pub above : meets (Number 1 ∷ Number 5 ∷ []) some_range [] ≡ false
above = refl

pub other_major : meets (Number 2 ∷ Number 3 ∷ []) some_range [] ≡ false
other_major = refl

-- nor does 1, which has too few atoms
pub too_short : meets (Number 1 ∷ []) some_range [] ≡ false
too_short = refl

-- `*` meets `myname`, and 1 doesn't
pub star_meets_my_name : meets (MyName ∷ []) (Ranges [] true) [] ≡ true
star_meets_my_name = refl

pub one_misses_my_name : meets (MyName ∷ []) (Ranges (One 1 ∷ []) false) [] ≡ false
one_misses_my_name = refl

-- without a star as many atoms are wanted as the version has: `1` against 1.0
pub no_star : meets (Number 1 ∷ Number 0 ∷ []) (Ranges (One 1 ∷ []) false) [] ≡ false
no_star = refl

-- both ends are included: `-3` and `3-` at 3, and `3-` below it
pub up_to : meets (Number 3 ∷ []) (Ranges (UpTo 3 ∷ []) false) [] ≡ true
up_to = refl

pub from : meets (Number 3 ∷ []) (Ranges (From 3 ∷ []) false) [] ≡ true
from = refl

pub below : meets (Number 2 ∷ []) (Ranges (From 3 ∷ []) false) [] ≡ false
below = refl

-- an exact name is met by the definition of that name, whatever its version
pub by_name : meets (MyName ∷ []) (Exact (7 ∷ [])) (7 ∷ []) ≡ true
by_name = refl

pub by_other_name : meets (MyName ∷ []) (Exact (7 ∷ [])) (8 ∷ []) ≡ false
by_other_name = refl
