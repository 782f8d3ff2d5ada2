use Rattle.std.proofs.Common.{◌-◌, arith, length, sym, ap, ◌∙◌}
use Rattle.std.specs.Prelude.{option_map, slice_get}
use Rattle.ac_types.specs.ReadTypes.{typ_of}
use Rattle.ac_terms.proofs.EnvLaws.{slice_get-map}
use Rattle.ac_check_terms.specs.inner.Parts.{types_in}
use Rattle.ac_check_terms.proofs.ScopeLaws.{types_in-Given, types_in-More, newest_found, outer_found}
use Rattle.ac_check_terms.proofs.scope.+find.Goals as goal

pub returns-in-Given : goal.returns-in-Given
returns-in-Given t c =
    ap (option_map typ_of) c.item.ensures ∙ sym (slice_get-map typ_of c.in-Given.types.now c.args.i) ∙ ap (λ G. slice_get G c.args.i) (sym (ap types_in c.in-Given.is ∙ types_in-Given c.in-Given.types))

pub returns-then-i-count : goal.returns-then-i-count
returns-then-i-count t c =
    let ts = c.in-More.types.now in
    ap (option_map typ_of) c.item-then-i-count.ensures
    ∙ sym (newest_found ts (types_in c.in-More.outer.now) c.args.i (length ts - 1 - c.args.i) (omega arith))
    ∙ ap (λ G. slice_get G c.args.i) (sym (ap types_in c.in-More.is ∙ types_in-More c.in-More.outer c.in-More.types))

pub returns-else-i-count : goal.returns-else-i-count
returns-else-i-count t c =
    let ts = c.in-More.types.now in
    c.find-else-i-count.ensures
    ∙ sym (outer_found ts (types_in c.in-More.outer.now) c.args.i (c.args.i - length ts) (omega arith))
    ∙ ap (λ G. slice_get G c.args.i) (sym (ap types_in c.in-More.is ∙ types_in-More c.in-More.outer c.in-More.types))
