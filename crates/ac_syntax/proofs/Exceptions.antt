-- The words of exceptions, and small facts that all proofs of uniqueness cite.
use Rattle.std.proofs.Common.{◌≡◌, ℕ, List, ◌∷◌, true, false, Option, Some, None, sym, ◌∙◌}
use Rattle.ac_types.proofs.FirstLaws.{none≢some, some_eq}
use Rattle.ac_syntax.specs.Signs.{Sign, Fixed}
use Rattle.ac_syntax.specs.declared.sign.Symbol.TheVariants.{Close, Comma, End, Bar}

pub apart : {P : Type 0} → false ≡ true → P
apart e = cc

-- nothing is no number
pub nothing_there : {A : Type 0} {P : Type 0} {x : A} → None ≡ Some x → P
nothing_there e = absurd (none≢some e)

pub same_value : {A : Type 0} {o : Option A} {x y : A} → o ≡ Some x → o ≡ Some y → x ≡ y
same_value p q = some_eq (sym p ∙ q)

pub close_is_no_comma : {P : Type 0} {a b : ℕ} {r s : List Sign} → Fixed a Close ∷ r ≡ Fixed b Comma ∷ s → P
close_is_no_comma e = cc

pub end_is_no_bar : {P : Type 0} {a b : ℕ} {r s : List Sign} → Fixed a End ∷ r ≡ Fixed b Bar ∷ s → P
end_is_no_bar e = cc
