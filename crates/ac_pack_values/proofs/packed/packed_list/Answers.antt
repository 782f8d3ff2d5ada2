use Rattle.std.proofs.Common.{◌≡◌, ◌∙◌, suc, ◌-◌, sym, ap, map, length, arith}
use Rattle.ac_types.specs.ReadTypes.{typ_of}
use Rattle.ac_terms.specs.Terms.{pvalues}
use Rattle.ac_terms.specs.Read.{value_of}
use Rattle.ac_rules.specs.Typing.{list_item}
use Rattle.ac_pack_terms.specs.Pieces.{entries_at, number_at, packed_items_at}
use Rattle.ac_pack_values.proofs.ListLaws.{listed, listed_counted, unlisted, visits_list, visits_lost}
use Rattle.ac_pack_values.proofs.packed.packed_list.Goals as goal

pub returns-in-None : goal.returns-in-None
returns-in-None c =
    let s = c.args.walk.now.site in
    let vs = c.args.items.now in
    let some : length vs ≡ suc (length vs - 1) = omega arith in
    visits_lost c.lost.result c.args.d (length vs) (length vs - 1) _ c.args.walk.now c.lost.new.self some
    (sym (unlisted (entries_at s) vs (typ_of c.args.ty.now) (ap list_item (sym c.head.ensures) ∙ sym c.in-None.ensures)))
    c.lost.ensures

pub returns-in-Some : goal.returns-in-Some
returns-in-Some c =
    let s = c.args.walk.now.site in
    let vs = c.args.items.now in
    let T = typ_of c.args.ty.now in
    let U = typ_of c.in-Some.item.now in
    visits_list c.many.result c.args.d (length vs) (packed_items_at s (pvalues (map value_of vs)) U) _ c.args.walk.now c.many.new.self
    (sym (listed (entries_at s) vs T U (ap list_item (sym c.head.ensures) ∙ sym c.in-Some.ensures)))
    (sym (listed_counted (entries_at s) (number_at s) vs U))
    c.many.ensures
