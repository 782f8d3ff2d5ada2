use Rattle.std.proofs.Common.{◌∙◌, sym, ap, length, Some}
use Rattle.ac_types.specs.ReadTypes.{typ_of}
use Rattle.ac_terms.specs.Terms.{KTuple}
use Rattle.ac_rules.specs.Typing.{tuple_parts}
use Rattle.ac_check_views.specs.Sites.{typs_of}
use Rattle.ac_values.specs.Values.{values}
use Rattle.ac_pack_terms.specs.Pieces.{entries_at, code_at, number_at, held_parts_at}
use Rattle.ac_pack_values.specs.inner.Forms.{paired}
use Rattle.ac_pack_values.proofs.ListLaws.{there_some, held_parts_counted, visits_tuple}
use Rattle.ac_pack_values.proofs.held.held_tuple.Goals as goal

pub returns : goal.returns
returns c =
    let s = c.args.walk.now.site in
    let vs = c.args.parts.now in
    let tys = c.as_slice.result.now in
    visits_tuple c.few.result c.args.d c.in_ok-count.count (held_parts_at s vs (typs_of tys)) _ c.args.walk.now c.few.new.self
    (sym (there_some (tuple_parts (typ_of c.args.ty.now)) (typs_of tys) (λ Ts. KTuple (held_parts_at s vs Ts)) (sym c.in-Some.ensures ∙ ap (λ ts. Some (typs_of ts)) (sym c.as_slice.ensures))))
    (c.in_ok-count.ensures ∙ ap (paired (length vs)) (c.len.ensures ∙ ap length (sym c.as_slice.ensures)) ∙ held_parts_counted (entries_at s) (code_at s) (values s.store.now) (number_at s) vs tys)
    c.few.ensures
