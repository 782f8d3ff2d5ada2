use Rattle.std.proofs.Common.{◌≡◌, refl, sym, ap, ap₂, ◌∙◌, arith, length}
use Rattle.ac_types.specs.Types.{TTuple, TList, TOpt, TFun, typs}
use Rattle.ac_types.specs.ReadTypes.{typ_of}
use Rattle.ac_types.specs.declared.ty.Ty.TheVariants as ty
use Rattle.ac_types.proofs.SizeLaws.{typ_of-Tuple}
use Rattle.ac_terms.specs.Read.{home_of}
use Rattle.ac_rules.specs.Views.{opened_at_home}
use Rattle.ac_check_views.specs.Sites.{typs_of, entries_of}
use Rattle.ac_check_views.specs.inner.Sizes.{from_home}
use Rattle.ac_check_views.proofs.ReadAs.{read_as, unchanged}
use Rattle.ac_check_views.proofs.SeenLaws.{views, one_more, all_of_them, copied, carry, from_ok}
use Rattle.ac_check_views.proofs.seen.+view.Goals as goal

pub all_written_out-returns : goal.all_written_out-returns
all_written_out-returns t c =
    let e : c.loop-ty.ty-index ≡ length c.args.tys.now = omega arith in
    ap typs (all_of_them (from_home c.args.site.now) c.loop-ty.found c.args.tys.now c.loop-ty.ty-index e c.loop-ty.invariant)
    ∙ sym (views (opened_at_home (entries_of c.args.site.now) (home_of c.args.site.now.home)) c.args.tys.now)

pub written_out-returns-in_ok-item-in-List : goal.written_out-returns-in_ok-item-in-List
written_out-returns-in_ok-item-in-List t c =
    let f = from_home c.args.site.now in
    let is : typ_of c.args.ty.now ≡ TList (typ_of c.deref.result.now) = read_as _ _ _ (c.in-List.is ∙ ap ty.List (sym c.deref.ensures)) (ty.outs-List _) in
    carry c.list_type.result _ _ (ap TList c.in_ok-item-in-List.ensures ∙ ap f (sym is)) c.list_type.ensures

pub written_out-returns-in_ok-item-in-Opt : goal.written_out-returns-in_ok-item-in-Opt
written_out-returns-in_ok-item-in-Opt t c =
    let f = from_home c.args.site.now in
    let is : typ_of c.args.ty.now ≡ TOpt (typ_of c.deref-in-Opt.result.now) = read_as _ _ _ (c.in-Opt.is ∙ ap ty.Opt (sym c.deref-in-Opt.ensures)) (ty.outs-Opt _) in
    carry c.option_type.result _ _ (ap TOpt c.in_ok-item-in-Opt.ensures ∙ ap f (sym is)) c.option_type.ensures

pub written_out-returns-in_ok-from-in-Fun : goal.written_out-returns-in_ok-from-in-Fun
written_out-returns-in_ok-from-in-Fun t c =
    let f = from_home c.args.site.now in
    let is : typ_of c.args.ty.now ≡ TFun (typ_of c.deref-in-Fun.result.now) (typ_of c.deref-in-Fun-2.result.now) =
    read_as _ _ _ (c.in-Fun.is ∙ ap₂ ty.Fun (sym c.deref-in-Fun.ensures) (sym c.deref-in-Fun-2.ensures)) (ty.outs-Fun _ _) in
    carry c.function_type.result _ _
    (ap₂ TFun (from_ok c.written_out-in-Fun.result _ _ c.in_ok-from-in-Fun.ensures.0 c.written_out-in-Fun.ensures) (from_ok c.written_out-in-Fun-2.result _ _ c.in_ok-from-in-Fun.ensures.1 c.written_out-in-Fun-2.ensures)
    ∙ ap f (sym is))
    c.function_type.ensures

pub written_out-returns-in-Int : goal.written_out-returns-in-Int
written_out-returns-in-Int t c =
    unchanged (from_home c.args.site.now) _ _ _ c.in-Int.is ty.outs-Int refl

pub written_out-returns-in-Bool : goal.written_out-returns-in-Bool
written_out-returns-in-Bool t c =
    unchanged (from_home c.args.site.now) _ _ _ c.in-Bool.is ty.outs-Bool refl

pub written_out-returns-in-Str : goal.written_out-returns-in-Str
written_out-returns-in-Str t c =
    unchanged (from_home c.args.site.now) _ _ _ c.in-Str.is ty.outs-Str refl

pub written_out-returns-in-Unit : goal.written_out-returns-in-Unit
written_out-returns-in-Unit t c =
    unchanged (from_home c.args.site.now) _ _ _ c.in-Unit.is ty.outs-Unit refl

pub written_out-returns-in-Exn : goal.written_out-returns-in-Exn
written_out-returns-in-Exn t c =
    unchanged (from_home c.args.site.now) _ _ _ c.in-Exn.is ty.outs-Exn refl

pub all_written_out-loop-ty-preserved : goal.all_written_out-loop-ty-preserved
all_written_out-loop-ty-preserved t c =
    one_more (from_home c.args.site.now) c.loop-ty.found c.push.new.self c.args.tys.now c.loop-ty.ty-index c.ty-item.result c.in_ok-written_out.field-0
    c.loop-ty.invariant c.loop-ty-test.true c.ty-item.is c.in_ok-written_out.ensures c.in_ok-push.ensures.ok

pub written_out-returns-in-None : goal.written_out-returns-in-None
written_out-returns-in-None t c =
    let is = read_as _ _ _ c.in-Abs.is (ty.outs-Abs _ _) in
    copied _ _ _ (is ∙ c.in-None.ensures ∙ ap (from_home c.args.site.now) (sym is)) c.copy.ensures

pub written_out-returns-in-Some : goal.written_out-returns-in-Some
written_out-returns-in-Some t c =
    copied _ _ _ (c.in-Some.ensures ∙ ap (from_home c.args.site.now) (sym (read_as _ _ _ c.in-Abs.is (ty.outs-Abs _ _)))) c.copy-in-Some.ensures

pub written_out-returns-in-Mine : goal.written_out-returns-in-Mine
written_out-returns-in-Mine t c =
    let is = read_as _ _ _ c.in-Mine.is (ty.outs-Mine _) in
    copied _ _ _ (is ∙ ap (from_home c.args.site.now) (sym is)) c.copy-in-Mine.ensures

pub written_out-returns-in_ok-parts-in-Tuple : goal.written_out-returns-in_ok-parts-in-Tuple
written_out-returns-in_ok-parts-in-Tuple t c =
    let is : typ_of c.args.ty.now ≡ TTuple (typs_of c.as_slice.result.now) = read_as _ _ _ (c.in-Tuple.is ∙ ap ty.Tuple (sym c.as_slice.ensures)) (ty.outs-Tuple _) in
    typ_of-Tuple c.in_ok-parts-in-Tuple.parts ∙ ap TTuple c.in_ok-parts-in-Tuple.ensures ∙ ap (from_home c.args.site.now) (sym is)
