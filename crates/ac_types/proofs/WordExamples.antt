-- Words that are identifiers, and words that are not.
use Rattle.std.proofs.Common.{◌≡◌, refl, true, false, length}
use Rattle.std.specs.Prelude.{codes}
use Rattle.ac_types.specs.Words.{is_word, is_reserved, reserved}

-- the underscore, 38 words in lower case, 4 in upper case and 10 exceptions
fifty_three : length reserved ≡ 53
fifty_three = refl

reserved_name : is_word (codes "name") ≡ false
unfolding is_reserved
reserved_name = refl

with_a_prime : is_word (codes "x'") ≡ true
unfolding is_reserved
with_a_prime = refl

begins_with_a_digit : is_word (codes "1x") ≡ false
begins_with_a_digit = refl
