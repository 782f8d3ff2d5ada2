use Rattle.std.proofs.Common.{◌≡◌, suc, ◌+◌, ◌-◌, ◌∙◌, sym, ap, arith}
use Rattle.ac_code.specs.Contexts.{types_left}
use Rattle.ac_meaning.specs.Substitution.{Free}
use Rattle.ac_pack_terms.specs.Pieces.{code_at}
use Rattle.ac_pack_terms.specs.inner.Slots.{slot_under}
use Rattle.ac_pack_terms.proofs.SlotLaws.{slot_further, slot_here, slot_past}
use Rattle.ac_pack_terms.proofs.around.held_slot.Goals as goal

pub returns-in-None : goal.returns-in-None
returns-in-None c =
    let m = c.args.j - c.loop-k.k in
    let i = c.loop-k.invariant m (omega arith) in
    ap (slot_under c.args.bound) (sym (i ∙ slot_past (code_at c.args.site.now) _ _ m c.in-None.ensures))

pub loop-k-preserved : goal.loop-k-preserved
loop-k-preserved c = λ m h.
    let i = c.loop-k.invariant (suc m) (omega arith) in
    let f = slot_further (code_at c.args.site.now) _ _ _ (types_left c.loop-k.types) m c.in-Some.ensures.3 in
    let t = c.later-types.ensures in
    cc

pub returns-in-Some-newest_and_rest : goal.returns-in-Some-newest_and_rest
returns-in-Some-newest_and_rest c =
    let i = c.loop-k.invariant 0 (omega arith) in
    let f = slot_here (code_at c.args.site.now) _ _ _ (types_left c.loop-k.types) c.in-Some-newest_and_rest.ensures.3 in
    let t = c.newest_type.ensures in
    let r = ap (slot_under c.args.bound) (i ∙ f) in
    cc

pub returns-in-None-newest_and_rest : goal.returns-in-None-newest_and_rest
returns-in-None-newest_and_rest c =
    let i = c.loop-k.invariant 0 (omega arith) in
    let z : c.args.bound ≡ c.args.bound + 0 = omega arith in
    ap (λ n. Free n) z ∙ ap (slot_under c.args.bound) (sym (i ∙ slot_past (code_at c.args.site.now) _ _ 0 c.in-None-newest_and_rest.ensures))
