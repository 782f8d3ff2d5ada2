-- Definitions that are not well formed, computed.
use Rattle.std.proofs.Common.{◌≡◌, refl}
use Rattle.std.specs.Prelude.{pos, false, [], ◌∷◌, Some, codes}
use Rattle.ac_types.specs.Primitives as primitives
use Rattle.ac_types.specs.Sigs.{MyName}
use Rattle.ac_terms.specs.Terms.{Int, Prim, exprs}
use Rattle.ac_terms.proofs.Samples.{number_module}
use Rattle.ac_rules.specs.Modules.{uncovered, is_valuable, like_missing}
use Rattle.ac_rules.proofs.Samples.{wanted}

-- a struct without its field, a field that computes, an abstract type without a likespec
pub no_field : uncovered (record (number_module (codes "M") (codes "y") (MyName ∷ []) (pos 1)) { fields = [] }) ≡ Some 0
no_field = refl

pub no_field_that_computes : is_valuable (Prim primitives.add (exprs (Int (pos 1) ∷ Int (pos 1) ∷ []))) ≡ false
no_field_that_computes = refl

pub no_like : like_missing (record wanted { like = [] }) ≡ Some 0
no_like = refl
