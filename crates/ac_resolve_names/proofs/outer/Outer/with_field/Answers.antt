use Rattle.std.proofs.Common.{◌≡◌, ◌<◌, ap, suc, arith, map, length}
use Rattle.std.proofs.lemmas.List.{length-map}
use Rattle.ac_resolve_names.specs.Fronts.{outer_of}
use Rattle.ac_resolve_names.specs.inner.Places.{word_of}
use Rattle.ac_resolve_names.proofs.outer.Outer.with_field.Goals as goal

pub invariant_of-result : goal.invariant_of-result
unfolding outer_of
invariant_of-result c =
    let r : length (map word_of c.args.self.fields) < 65536 = c.requires in
    let k : length c.in_ok-fields.fields ≡ suc (length c.args.self.fields) = ap length c.in_ok-fields.ensures in
    record { named = c.args.self.named; few = omega (arith, length-map c.args.self.fields word_of) }
