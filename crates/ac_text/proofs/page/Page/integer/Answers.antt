use Rattle.std.proofs.Common.{w64, ap, ◌∙◌}
use Rattle.std.proofs.lemmas.Int.{to_z-of_z}
use Rattle.std.specs.Fmt.{signed_decimal}
use Rattle.ac_text.proofs.page.Page.integer.Goals as goal

pub returns-in-Ok : goal.returns-in-Ok
returns-in-Ok c =
    let digits = c.in-Ok.ensures.ok ∙ ap signed_decimal (to_z-of_z w64 c.args.number c.ranges.number) in
    rw (c.as_bytes.ensures.value ∙ digits) at c.put.ensures
