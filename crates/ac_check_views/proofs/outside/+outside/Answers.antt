use Rattle.std.proofs.Common.{◌≡◌, refl, sym, ap, ap₂, ◌∙◌, arith, length}
use Rattle.ac_types.specs.Types.{TTuple, TList, TOpt, TFun, TAbs, typs, with_mine}
use Rattle.ac_types.specs.ReadTypes.{typ_of}
use Rattle.ac_types.specs.declared.ty.Ty.TheVariants as ty
use Rattle.ac_types.proofs.SizeLaws.{typ_of-Tuple}
use Rattle.ac_check_views.specs.Sites.{typs_of}
use Rattle.ac_check_views.proofs.ReadAs.{read_as, unchanged}
use Rattle.ac_check_views.proofs.SeenLaws.{outsides, one_more, all_of_them, copied, carry, from_ok}
use Rattle.ac_check_views.proofs.outside.+outside.Goals as goal

pub all_outside-loop-ty-preserved : goal.all_outside-loop-ty-preserved
all_outside-loop-ty-preserved t c =
    one_more (with_mine (TAbs c.args.name.now.0)) c.loop-ty.found c.push.new.self c.args.tys.now c.loop-ty.ty-index c.ty-item.result c.in_ok-outside.field-0
    c.loop-ty.invariant c.loop-ty-test.true c.ty-item.is c.in_ok-outside.ensures c.in_ok-push.ensures.ok

pub all_outside-returns : goal.all_outside-returns
all_outside-returns t c =
    let e : c.loop-ty.ty-index ≡ length c.args.tys.now = omega arith in
    ap typs (all_of_them (with_mine (TAbs c.args.name.now.0)) c.loop-ty.found c.args.tys.now c.loop-ty.ty-index e c.loop-ty.invariant)
    ∙ sym (outsides (TAbs c.args.name.now.0) c.args.tys.now)

pub outside-returns-in_ok-parts-in-Tuple : goal.outside-returns-in_ok-parts-in-Tuple
outside-returns-in_ok-parts-in-Tuple t c =
    let f = with_mine (TAbs c.args.name.now.0) in
    let is : typ_of c.args.ty.now ≡ TTuple (typs_of c.as_slice.result.now) = read_as _ _ _ (c.in-Tuple.is ∙ ap ty.Tuple (sym c.as_slice.ensures)) (ty.outs-Tuple _) in
    typ_of-Tuple c.in_ok-parts-in-Tuple.parts ∙ ap TTuple c.in_ok-parts-in-Tuple.ensures ∙ ap f (sym is)

pub outside-returns-in_ok-item-in-List : goal.outside-returns-in_ok-item-in-List
outside-returns-in_ok-item-in-List t c =
    let f = with_mine (TAbs c.args.name.now.0) in
    let is : typ_of c.args.ty.now ≡ TList (typ_of c.deref.result.now) = read_as _ _ _ (c.in-List.is ∙ ap ty.List (sym c.deref.ensures)) (ty.outs-List _) in
    carry c.list_type.result _ _ (ap TList c.in_ok-item-in-List.ensures ∙ ap f (sym is)) c.list_type.ensures

pub outside-returns-in_ok-item-in-Opt : goal.outside-returns-in_ok-item-in-Opt
outside-returns-in_ok-item-in-Opt t c =
    let f = with_mine (TAbs c.args.name.now.0) in
    let is : typ_of c.args.ty.now ≡ TOpt (typ_of c.deref-in-Opt.result.now) = read_as _ _ _ (c.in-Opt.is ∙ ap ty.Opt (sym c.deref-in-Opt.ensures)) (ty.outs-Opt _) in
    carry c.option_type.result _ _ (ap TOpt c.in_ok-item-in-Opt.ensures ∙ ap f (sym is)) c.option_type.ensures

pub outside-returns-in_ok-from-in-Fun : goal.outside-returns-in_ok-from-in-Fun
outside-returns-in_ok-from-in-Fun t c =
    let f = with_mine (TAbs c.args.name.now.0) in
    let is : typ_of c.args.ty.now ≡ TFun (typ_of c.deref-in-Fun.result.now) (typ_of c.deref-in-Fun-2.result.now) =
    read_as _ _ _ (c.in-Fun.is ∙ ap₂ ty.Fun (sym c.deref-in-Fun.ensures) (sym c.deref-in-Fun-2.ensures)) (ty.outs-Fun _ _) in
    carry c.function_type.result _ _
    (ap₂ TFun (from_ok c.outside-in-Fun.result _ _ c.in_ok-from-in-Fun.ensures.0 c.outside-in-Fun.ensures) (from_ok c.outside-in-Fun-2.result _ _ c.in_ok-from-in-Fun.ensures.1 c.outside-in-Fun-2.ensures)
    ∙ ap f (sym is))
    c.function_type.ensures

pub outside-returns-in-Int : goal.outside-returns-in-Int
outside-returns-in-Int t c =
    unchanged (with_mine (TAbs c.args.name.now.0)) _ _ _ c.in-Int.is ty.outs-Int refl

pub outside-returns-in-Bool : goal.outside-returns-in-Bool
outside-returns-in-Bool t c =
    unchanged (with_mine (TAbs c.args.name.now.0)) _ _ _ c.in-Bool.is ty.outs-Bool refl

pub outside-returns-in-Str : goal.outside-returns-in-Str
outside-returns-in-Str t c =
    unchanged (with_mine (TAbs c.args.name.now.0)) _ _ _ c.in-Str.is ty.outs-Str refl

pub outside-returns-in-Unit : goal.outside-returns-in-Unit
outside-returns-in-Unit t c =
    unchanged (with_mine (TAbs c.args.name.now.0)) _ _ _ c.in-Unit.is ty.outs-Unit refl

pub outside-returns-in-Exn : goal.outside-returns-in-Exn
outside-returns-in-Exn t c =
    unchanged (with_mine (TAbs c.args.name.now.0)) _ _ _ c.in-Exn.is ty.outs-Exn refl

pub outside-returns-in-Abs : goal.outside-returns-in-Abs
outside-returns-in-Abs t c =
    let is = read_as _ _ _ c.in-Abs.is (ty.outs-Abs _ _) in
    copied _ _ _ (is ∙ ap (with_mine (TAbs c.args.name.now.0)) (sym is)) c.copy-in-Abs.ensures

pub outside-returns-in_ok-copy-in-Mine : goal.outside-returns-in_ok-copy-in-Mine
outside-returns-in_ok-copy-in-Mine t c =
    let is = read_as _ _ _ c.in-Mine.is (ty.outs-Mine _) in
    read_as _ _ _ refl (ty.outs-Abs _ _) ∙ ap (TAbs c.args.name.now.0) c.in_ok-copy-in-Mine.ensures ∙ ap (with_mine (TAbs c.args.name.now.0)) (sym is)
