-- The first numbers of some seeds, computed.
use Rattle.std.proofs.Common.{◌≡◌, refl}
use Rattle.ac_make.specs.Draws.{draw}

-- of seed 1
pub first_of_one : draw 1 0 ≡ 908834774
first_of_one = refl

pub second_of_one : draw 1 1 ≡ 1093944153
second_of_one = refl

-- of the greatest seed; its product is past 64 bits
pub first_of_greatest : draw 18446744073709551615 0 ≡ 1574552488
first_of_greatest = refl

pub fourth_of_greatest : draw 18446744073709551615 3 ≡ 901017602
fourth_of_greatest = refl
