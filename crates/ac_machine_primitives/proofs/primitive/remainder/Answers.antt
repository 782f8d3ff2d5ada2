use Rattle.std.proofs.Common.{◌∙◌, ap, ap₂, refl}
use lib.IntN.{ℤ}
use Rattle.std.specs.Int.{w64}
use Rattle.std.specs.Prelude.{int_rem}
use Rattle.std.proofs.lemmas.Int.{to_z-of_z}
use Rattle.ac_code.specs.Constants.{Yields, CInt}
use Rattle.ac_machine_primitives.proofs.PrimitiveLaws.{not_zero}
use Rattle.ac_machine_primitives.proofs.primitive.remainder.Goals as goal

pub returns : goal.returns
returns c =
    let x = to_z-of_z w64 c.args.x c.ranges.x in
    let y = to_z-of_z w64 c.args.y c.ranges.y in
    let z = not_zero c.args.y (λ e. c.if-y-eq0.false (rw e refl)) in
    rw z (ap (λ (n : ℤ). Yields (CInt n)) (to_z-of_z w64 c.wrapping_rem.result (record { sfits = c.wrapping_rem.type_inv }) ∙ c.wrapping_rem.ensures ∙ ap₂ int_rem x y))
