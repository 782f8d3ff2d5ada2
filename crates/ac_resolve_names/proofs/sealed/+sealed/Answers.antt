use Rattle.std.proofs.Common.{◌≡◌, ◌∙◌, ap, ap₂, sym, arith, length, map}
use Rattle.ac_types.specs.Types.{TTuple, TFun, TAbs, typs, all_with_mine}
use Rattle.ac_types.specs.ReadTypes.{typ_of}
use Rattle.ac_types.proofs.SizeLaws.{typ_of-Tuple}
use Rattle.ac_types.proofs.Loops.{built}
use Rattle.ac_types.proofs.SizeLaws.{typ_of-Fun}
use Rattle.ac_resolve_names.proofs.TypeLists.{sealed_type, all_sealed, sealed_tuple, sealed_function}
use Rattle.ac_resolve_names.proofs.sealed.+sealed.Goals as goal

pub all-loop-ty-preserved : goal.all-loop-ty-preserved
all-loop-ty-preserved t c =
    built typ_of (sealed_type c.args.name.now.0) _ _ _ _ _ _ c.loop-ty.invariant c.loop-ty-test.true c.ty-item.is c.in_ok-push.ensures.ok c.in_ok-made.ensures

pub all-returns : goal.all-returns
all-returns t c = let e : c.loop-ty.ty-index ≡ length c.args.tys.now = omega arith in all_sealed c.args.name.now.0 _ _ _ e c.loop-ty.invariant

pub sealed-returns-in_ok-sealed-in-Tuple : goal.sealed-returns-in_ok-sealed-in-Tuple
sealed-returns-in_ok-sealed-in-Tuple t c =
    typ_of-Tuple c.in_ok-sealed-in-Tuple.sealed
    ∙ ap TTuple (c.in_ok-sealed-in-Tuple.ensures ∙ ap (λ l. all_with_mine (TAbs c.args.name.now.0) (typs (map typ_of l))) c.as_slice.ensures)
    ∙ sym (sealed_tuple c.args.name.now.0 c.args.ty.now c.in-Tuple.parts c.in-Tuple.is)

pub sealed-returns-in_ok-answer-in-Fun : goal.sealed-returns-in_ok-answer-in-Fun
sealed-returns-in_ok-answer-in-Fun t c =
    typ_of-Fun c.in_ok-argument-in-Fun.argument c.in_ok-answer-in-Fun.answer
    ∙ ap₂ TFun (c.in_ok-argument-in-Fun.ensures ∙ ap (sealed_type c.args.name.now.0) c.deref-in-Fun.ensures) (c.in_ok-answer-in-Fun.ensures ∙ ap (sealed_type c.args.name.now.0) c.deref-in-Fun-2.ensures)
    ∙ sym (sealed_function c.args.name.now.0 c.args.ty.now c.in-Fun.from c.in-Fun.to c.in-Fun.is)
