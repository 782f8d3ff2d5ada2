-- Where two types are equal.
use Rattle.std.proofs.Common.{◌≡◌, refl, sym, ap, ◌∙◌, Bool, true, false}
use Rattle.ac_types.specs.Types.{Typ, same}
use Rattle.ac_types.proofs.Same.{same_eq, same_refl}

-- which of two types stands first makes no difference
pub same_either_way : (T U : Typ) → same T U ≡ same U T
same_either_way T U = by (same T U) (same U T) refl refl
  where
    by : (b d : Bool) → same T U ≡ b → same U T ≡ d → same T U ≡ same U T
    by true d p q = ap (same T) (sym (same_eq T U p)) ∙ same_refl T ∙ sym (ap (same U) (same_eq T U p) ∙ same_refl U)
    by false true p q = ap (same T) (same_eq U T q) ∙ same_refl T ∙ sym (ap (same U) (sym (same_eq U T q)) ∙ same_refl U)
    by false false p q = p ∙ sym q
