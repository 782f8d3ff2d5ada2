-- What a type reads as, from what it is.
use Rattle.std.proofs.Common.{◌≡◌, refl, sym, ap, ◌∙◌}
use Rattle.ac_types.specs.Types.{Typ}
use Rattle.ac_types.specs.ReadTypes.{typ_of, typ_layer}
use Rattle.ac_types.specs.declared.ty.Ty.{Ty, out-Ty, map-Ty}
use Rattle.ac_types.specs.declared.ty.Ty.TheOpen.{Ty-F}
use Rattle.ac_types.proofs.SizeLaws.{typ_out}

abbrev pub layer : Ty-F Ty → Typ
layer x = typ_layer (map-Ty Ty Typ typ_of x)

pub read_as : (t u : Ty) (x : Ty-F Ty) → t ≡ u → out-Ty u ≡ x → typ_of t ≡ layer x
read_as t u x is e = ap typ_of is ∙ typ_out u ∙ ap layer e

-- a type that a change of types leaves as it is
pub unchanged : (f : Typ → Typ) (t u : Ty) (x : Ty-F Ty) → t ≡ u → out-Ty u ≡ x → f (layer x) ≡ layer x → typ_of u ≡ f (typ_of t)
unchanged f t u x is e kept = read_as u u x refl e ∙ sym (ap f (read_as t u x is e) ∙ kept)
