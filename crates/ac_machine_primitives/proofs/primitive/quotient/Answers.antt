use Rattle.std.proofs.Common.{◌≡◌, ◌∙◌, ap, sym, refl}
use lib.IntN.{ℤ, negsuc}
use Rattle.std.specs.Int.{w64, int_wrapping_neg, cast_signed}
use Rattle.std.specs.Prelude.{int_div}
use Rattle.std.proofs.lemmas.Int.{to_z-of_z, wrapping_neg_is, int_wrap_fits}
use Rattle.ac_code.specs.Constants.{Yields, CInt}
use Rattle.ac_machine_primitives.proofs.PrimitiveLaws.{not_zero, by_minus_one, fits_div}
use Rattle.ac_machine_primitives.proofs.primitive.quotient.Goals as goal

pub returns-then-y-eqminus1 : goal.returns-then-y-eqminus1
returns-then-y-eqminus1 c =
    let x = to_z-of_z w64 c.args.x c.ranges.x in
    let is : c.args.y ≡ negsuc 0 = sym (to_z-of_z w64 c.args.y c.ranges.y) ∙ ap (cast_signed w64) c.if-y-eqminus1.true in
    let z = not_zero c.args.y (λ e. c.if-y-eq0.false (rw e refl)) in
    let q : int_div c.args.x c.args.y ≡ _ = ap (int_div c.args.x) is ∙ by_minus_one c.args.x in
    rw (z, q)
    (ap (λ (n : ℤ). Yields (CInt n))
    (to_z-of_z w64 c.wrapping_neg.result (record { sfits = c.wrapping_neg.type_inv }) ∙ c.wrapping_neg.ensures ∙ ap (int_wrapping_neg w64) x ∙ wrapping_neg_is w64 c.args.x c.ranges.x))

pub returns : goal.returns
returns c =
    let x = to_z-of_z w64 c.args.x c.ranges.x in
    let y = to_z-of_z w64 c.args.y c.ranges.y in
    let z = not_zero c.args.y (λ e. c.if-y-eq0.false (rw e refl)) in
    let fits = fits_div c.args.x c.args.y c.ranges.x.sfits (λ e. c.if-y-eqminus1.false (rw e refl)) in
    rw (z, x, y, int_wrap_fits w64 (int_div c.args.x c.args.y) (record { sfits = fits }))
    (ap (λ (n : ℤ). Yields (CInt n)) (to_z-of_z w64 (int_div c.args.x c.args.y) (record { sfits = fits })))
