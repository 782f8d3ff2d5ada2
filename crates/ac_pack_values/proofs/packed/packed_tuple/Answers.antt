use Rattle.std.proofs.Common.{◌∙◌, sym, ap, length, map, Some}
use Rattle.ac_types.specs.ReadTypes.{typ_of}
use Rattle.ac_terms.specs.Terms.{KTuple, pvalues}
use Rattle.ac_terms.specs.Read.{value_of}
use Rattle.ac_rules.specs.Typing.{tuple_parts}
use Rattle.ac_check_views.specs.Sites.{typs_of}
use Rattle.ac_pack_terms.specs.Pieces.{entries_at, number_at, packed_parts_at}
use Rattle.ac_pack_values.specs.inner.Forms.{paired}
use Rattle.ac_pack_values.proofs.ListLaws.{there_some, parts_counted, visits_tuple}
use Rattle.ac_pack_values.proofs.packed.packed_tuple.Goals as goal

pub returns : goal.returns
returns c =
    let s = c.args.walk.now.site in
    let vs = c.args.parts.now in
    let tys = c.as_slice.result.now in
    visits_tuple c.few.result c.args.d c.in_ok-count.count (packed_parts_at s (pvalues (map value_of vs)) (typs_of tys)) _ c.args.walk.now c.few.new.self
    (sym (there_some (tuple_parts (typ_of c.args.ty.now)) (typs_of tys) (λ Ts. KTuple (packed_parts_at s (pvalues (map value_of vs)) Ts)) (sym c.in-Some.ensures ∙ ap (λ ts. Some (typs_of ts)) (sym c.as_slice.ensures))))
    (c.in_ok-count.ensures ∙ ap (paired (length vs)) (c.len.ensures ∙ ap length (sym c.as_slice.ensures)) ∙ parts_counted (entries_at s) (number_at s) vs tys)
    c.few.ensures
