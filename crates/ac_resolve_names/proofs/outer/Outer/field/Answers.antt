use Rattle.std.proofs.Common.{◌∙◌, ◌<◌, sym, rules}
use Rattle.ac_resolve_names.proofs.OuterLaws.{field_fits}
use Rattle.ac_resolve_names.proofs.outer.Outer.field.Goals as goal

pub overflow_cast-result : goal.overflow_cast-result
overflow_cast-result c =
    let f : c.in_ok-place.place < 65536 = field_fits c.args.x.now c.args.self.now.fields c.in_ok-place.place c.args.self.now.few (sym c.place.ensures ∙ c.in_ok-place.was) in
    search rules
