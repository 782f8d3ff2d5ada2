use Rattle.std.proofs.Common.{◌≡◌, ◌-◌, suc, List, map, ap, ◌∙◌, arith}
use Rattle.std.proofs.lemmas.Result.{err_from_is_err_and}
use Rattle.ac_types.specs.declared.ty.Ty.{Ty}
use Rattle.ac_types.specs.Types.{Typ, TTuple, TList, TOpt, TFun, no_types, typ, typs}
use Rattle.ac_types.specs.ReadTypes.{typ_of}
use Rattle.ac_decode_pieces.specs.ExactTypes.{exact_type_of}
use Rattle.ac_terms.specs.PacketReading.{times}
use Rattle.ac_decode_pieces.proofs.Loops.{with_front, starts, goes_on, ends, all_read, onto_types}
use Rattle.ac_decode_pieces.specs.inner.Follows.{type_follows}
use Rattle.ac_decode_pieces.proofs.Steps.{answered_by, refused_by, made, paired, refused_first, joined_read}
use Rattle.ac_decode_pieces.proofs.TypeCycle.{none_of_no_height, type_led, no_type_tag}
use Rattle.ac_decode_pieces.proofs.types.+types.Goals as goal

pub all-loop-init : goal.all-loop-init
all-loop-init t c =
    ap (λ xs. with_front typ (map typ_of xs) (times no_types typ (exact_type_of c.args.own c.args.depth) (c.args.count - 0) c.args.cursor.now.left)) c.new-items.ensures
    ∙ starts no_types typ (exact_type_of c.args.own c.args.depth) c.args.count c.args.cursor.now.left

pub all-returns-in_err-item : goal.all-returns-in_err-item
all-returns-in_err-item t c =
    let p = err_from_is_err_and c.from_residual.result c.from_residual.ensures.1 in
    rw (p.1, p.2) (ends no_types typ (exact_type_of c.args.own c.args.depth) c.in_err-item.field-0.0 (map typ_of c.loop.items) c.args.count c.loop.counter c.loop.cursor.left _ c.loop-test.true c.in_err-item.ensures c.loop.invariant)

pub all-loop-preserved : goal.all-loop-preserved
all-loop-preserved t c =
    goes_on no_types typ (exact_type_of c.args.own c.args.depth) typ_of c.loop.items _ c.in_ok-item.item c.args.count c.loop.counter c.loop.cursor.left _ _ c.loop-test.true c.in_ok-item.ensures c.in_ok-push.ensures.ok c.loop.invariant

pub all-returns : goal.all-returns
all-returns t c =
    all_read no_types typ (exact_type_of c.args.own c.args.depth) (map typ_of c.loop.items) c.args.count c.loop.counter c.loop.cursor.left _ (typs (map typ_of c.loop.items)) c.loop-test.false c.loop.invariant (onto_types (map typ_of c.loop.items))

pub type_of-returns-then-depth-eq0 : goal.type_of-returns-then-depth-eq0
type_of-returns-then-depth-eq0 t c = none_of_no_height c.args.own c.args.depth c.args.cursor.now.left c.if-depth-eq0.true

pub type_of-returns-in_err-tag : goal.type_of-returns-in_err-tag
type_of-returns-in_err-tag t c =
    let p = err_from_is_err_and c.from_residual.result c.from_residual.ensures.1 in
    let e : c.args.depth ≡ suc (c.args.depth - 1) = omega arith in
    rw (p.1, p.2) (no_type_tag c.args.own c.args.depth (c.args.depth - 1) c.args.cursor.now.left c.in_err-tag.field-0.0 e c.in_err-tag.ensures)

pub type_of-returns-in_err-head : goal.type_of-returns-in_err-head
type_of-returns-in_err-head t c =
    let p = err_from_is_err_and c.from_residual-in_err-head.result c.from_residual-in_err-head.ensures.1 in
    let e : c.args.depth ≡ suc (c.args.depth - 1) = omega arith in
    let f = exact_type_of c.args.own (c.args.depth - 1) in
    rw (p.1, p.2) (refused_by c.in_err-head.field-0.0 (type_led c.args.own c.args.depth (c.args.depth - 1) c.args.cursor.now.left _ _ e c.in_ok-tag.ensures) (c.in_err-head.ensures f))

pub type_of-returns-in-Leaf : goal.type_of-returns-in-Leaf
type_of-returns-in-Leaf t c =
    let e : c.args.depth ≡ suc (c.args.depth - 1) = omega arith in
    let f = exact_type_of c.args.own (c.args.depth - 1) in
    type_led c.args.own c.args.depth (c.args.depth - 1) c.args.cursor.now.left _ _ e c.in_ok-tag.ensures ∙ c.in_ok-head.ensures f ∙ ap (λ h. type_follows f h c.head.new.cursor.left) c.in-Leaf.is

pub type_of-returns-in-Tuple : goal.type_of-returns-in-Tuple
type_of-returns-in-Tuple t c =
    let e : c.args.depth ≡ suc (c.args.depth - 1) = omega arith in
    let f = exact_type_of c.args.own (c.args.depth - 1) in
    answered_by _ _ _ (type_led c.args.own c.args.depth (c.args.depth - 1) c.args.cursor.now.left _ _ e c.in_ok-tag.ensures ∙ c.in_ok-head.ensures f ∙ ap (λ h. type_follows f h c.head.new.cursor.left) c.in-Tuple.is)
    (made (λ (ts : List Ty). typs (map typ_of ts)) typ_of TTuple c.all.result c.tuple.result _ _ c.all.ensures c.tuple.ensures)

pub type_of-returns-in-List : goal.type_of-returns-in-List
type_of-returns-in-List t c =
    let e : c.args.depth ≡ suc (c.args.depth - 1) = omega arith in
    let f = exact_type_of c.args.own (c.args.depth - 1) in
    answered_by _ _ _ (type_led c.args.own c.args.depth (c.args.depth - 1) c.args.cursor.now.left _ _ e c.in_ok-tag.ensures ∙ c.in_ok-head.ensures f ∙ ap (λ h. type_follows f h c.head.new.cursor.left) c.in-List.is)
    (made typ_of typ_of TList c.boxed.result c.list.result _ _ c.boxed.ensures c.list.ensures)

pub type_of-returns-in-Opt : goal.type_of-returns-in-Opt
type_of-returns-in-Opt t c =
    let e : c.args.depth ≡ suc (c.args.depth - 1) = omega arith in
    let f = exact_type_of c.args.own (c.args.depth - 1) in
    answered_by _ _ _ (type_led c.args.own c.args.depth (c.args.depth - 1) c.args.cursor.now.left _ _ e c.in_ok-tag.ensures ∙ c.in_ok-head.ensures f ∙ ap (λ h. type_follows f h c.head.new.cursor.left) c.in-Opt.is)
    (made typ_of typ_of TOpt c.boxed-in-Opt.result c.option.result _ _ c.boxed-in-Opt.ensures c.option.ensures)

pub type_of-returns-in-Fun : goal.type_of-returns-in-Fun
type_of-returns-in-Fun t c =
    let e : c.args.depth ≡ suc (c.args.depth - 1) = omega arith in
    let f = exact_type_of c.args.own (c.args.depth - 1) in
    answered_by _ _ _ (type_led c.args.own c.args.depth (c.args.depth - 1) c.args.cursor.now.left _ _ e c.in_ok-tag.ensures ∙ c.in_ok-head.ensures f ∙ ap (λ h. type_follows f h c.head.new.cursor.left) c.in-Fun.is ∙ paired TFun f f _)
    (made (λ (p : Ty × Ty). (typ_of p.0, typ_of p.1)) typ_of (λ (p : Typ × Typ). TFun p.0 p.1) c.two_types.result c.function.result _ _ c.two_types.ensures c.function.ensures)

pub two_types-returns-in_err-from : goal.two_types-returns-in_err-from
two_types-returns-in_err-from t c =
    let p = err_from_is_err_and c.from_residual.result c.from_residual.ensures.1 in
    let f = exact_type_of c.args.own c.args.depth in
    rw (p.1, p.2) (refused_first f f c.args.cursor.now.left c.in_err-from.field-0.0 c.in_err-from.ensures)

pub two_types-returns : goal.two_types-returns
two_types-returns t c =
    let f = exact_type_of c.args.own c.args.depth in
    joined_read typ_of typ_of f f c.args.cursor.now.left _ _ c.in_ok-from.from c.boxed-2.result c.joined.result c.in_ok-from.ensures c.boxed-2.ensures (c.joined.ensures)
