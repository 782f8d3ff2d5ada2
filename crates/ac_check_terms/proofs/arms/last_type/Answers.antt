use Rattle.std.proofs.Common.{◌≡◌, ◌+◌, sym, ap, ◌∙◌, arith, length, drop, List, Bool}
use Rattle.ac_types.specs.Partial.{given}
use Rattle.ac_types.specs.declared.ty.Ty.{Ty}
use Rattle.ac_check_terms.proofs.ArmLaws.{last_from, last_is, last_next, last_end}
use Rattle.ac_check_terms.proofs.arms.last_type.Goals as goal

pub loop-ty-init : goal.loop-ty-init
loop-ty-init c =
    last_is c.args.types c.pop.new.self.items c.in_ok-last.last (sym c.into_vec-types.ensures ∙ c.in_ok-last.ensures.items)
    ∙ ap (λ (ts : List Ty). last_from ts c.in_ok-last.last) (sym c.deref-ty-items.ensures.value)

pub loop-ty-preserved : goal.loop-ty-preserved
loop-ty-preserved c =
    c.loop-ty.invariant
    ∙ last_next c.deref-ty-items.result.now c.in_ok-last.last c.loop-ty.ty-index c.ty-item.result c.loop-ty-test.true c.ty-item.is
    ∙ ap (λ (b : Bool). given b (last_from (drop (c.loop-ty.ty-index + 1) c.deref-ty-items.result.now) c.in_ok-last.last)) (sym c.if-not-is_base.ensures.found)

pub returns-then-not-is_base : goal.returns-then-not-is_base
returns-then-not-is_base c =
    sym (c.loop-ty.invariant
    ∙ last_next c.deref-ty-items.result.now c.in_ok-last.last c.loop-ty.ty-index c.ty-item.result c.loop-ty-test.true c.ty-item.is
    ∙ ap (λ (b : Bool). given b (last_from (drop (c.loop-ty.ty-index + 1) c.deref-ty-items.result.now) c.in_ok-last.last)) (sym c.if-not-is_base.ensures.found))

pub returns : goal.returns
returns c =
    let e : c.loop-ty.ty-index ≡ length c.deref-ty-items.result.now = omega arith in
    sym (c.loop-ty.invariant ∙ last_end c.deref-ty-items.result.now c.in_ok-last.last c.loop-ty.ty-index e)
