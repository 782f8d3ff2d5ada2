use Rattle.std.proofs.Common.{◌≡◌, ◌∙◌, sym, ap, None}
use Rattle.ac_types.specs.ReadTypes.{typ_of}
use Rattle.ac_rules.specs.Typing.{list_item}
use Rattle.ac_rules.specs.Plain.{stays}
use Rattle.ac_values.specs.Values.{stands_as}
use Rattle.ac_pack_terms.specs.Pieces.{entries_at, code_at, number_at, held_items_at}
use Rattle.ac_pack_values.specs.inner.Forms.{items_counted}
use Rattle.ac_pack_values.proofs.ListLaws.{some_counted, held_listed, held_counted, held_unlisted, held_unended, visits_value, visits_list, visits_lost}
use Rattle.ac_pack_values.proofs.held.held_list.Goals as goal

pub returns-in_default : goal.returns-in_default
returns-in_default c =
    let s = c.args.walk.now.site in
    let m = stands_as s.store.now c.args.list.0 in
    let none : items_counted m ≡ None = sym c.in_ok-count.ensures ∙ c.in_default.is in
    visits_value c.stay.result c.args.d stays _ c.args.walk.now c.stay.new.self (sym (held_unended (entries_at s) (code_at s) m (typ_of c.args.ty.now) c.requires.cons none)) c.stay.ensures

pub returns-in-None : goal.returns-in-None
returns-in-None c =
    let s = c.args.walk.now.site in
    let m = stands_as s.store.now c.args.list.0 in
    let n = c.in-Some.count in
    let counted = sym c.in_ok-count.ensures ∙ c.in-Some.is in
    let some = some_counted m n c.requires.cons counted in
    visits_lost c.lost.result c.args.d n some.0 _ c.args.walk.now c.lost.new.self some.1
    (sym (held_unlisted (entries_at s) (code_at s) m n (typ_of c.args.ty.now) counted (ap list_item (sym c.head.ensures) ∙ sym c.in-None.ensures)))
    c.lost.ensures

pub returns-in-Some-list_item : goal.returns-in-Some-list_item
returns-in-Some-list_item c =
    let s = c.args.walk.now.site in
    let m = stands_as s.store.now c.args.list.0 in
    let n = c.in-Some.count in
    let T = typ_of c.args.ty.now in
    let U = typ_of c.in-Some-list_item.item.now in
    let counted = sym c.in_ok-count.ensures ∙ c.in-Some.is in
    visits_list c.many.result c.args.d n (held_items_at s c.args.list U) _ c.args.walk.now c.many.new.self
    (sym (held_listed (entries_at s) (code_at s) m n T U counted (ap list_item (sym c.head.ensures) ∙ sym c.in-Some-list_item.ensures)))
    (sym (held_counted (entries_at s) (code_at s) (number_at s) m n U counted))
    c.many.ensures
