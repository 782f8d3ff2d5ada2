use Rattle.std.proofs.Common.{◌≡◌, ◌+◌, ◌<◌, subst, sym, arith}
use Rattle.ac_types.specs.Types.{Typ, TUnit, TOpt, height}
use Rattle.ac_types.specs.ReadTypes.{typ_of}
use Rattle.ac_types.specs.declared.ty.Ty.TheVariants as ty
use Rattle.ac_types.proofs.SizeLaws.{height-pos}
use Rattle.ac_pack_values.proofs.TravelLaws.{typ_of-Unit, typ_of-Opt}
use Rattle.ac_pack_values.proofs.travels.too_large.Goals as goal

pub loop-init : goal.loop-init
loop-init c = subst (λ (T : Typ). 0 < height T) (sym typ_of-Unit) (height-pos TUnit)

pub loop-preserved : goal.loop-preserved
loop-preserved c =
    let e = typ_of-Opt c.in_ok-new.field-0 in
    let q : typ_of (ty.Opt c.in_ok-new.field-0) ≡ TOpt (typ_of c.loop.ty) = cc (e, c.in_ok-new.ensures) in
    let h : c.loop.counter + 1 < height (TOpt (typ_of c.loop.ty)) = omega (arith, c.loop.invariant) in
    subst (λ (T : Typ). c.loop.counter + 1 < height T) (sym q) h
