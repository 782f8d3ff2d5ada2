use Rattle.std.proofs.Common.{◌∙◌}
use Rattle.std.proofs.lemmas.Result.{err_from_is_err_and}
use Rattle.ac_pack_values.proofs.WrittenLaws.{goes_on, stops_at}
use Rattle.ac_pack_values.proofs.visit.visit_pending.Goals as goal

pub loop-preserved : goal.loop-preserved
loop-preserved c =
    let g = goes_on tt c.in-Some.piece c.args.walk.now c.loop.walk c.next.new.self c.visit.new.walk c.loop.invariant.comes c.next.ensures.site c.in-Some.ensures.next c.in_ok-visit.ensures in
    record { site = g.0 ∙ c.loop.invariant.site; comes = g.1 }

pub returns-in_err-visit : goal.returns-in_err-visit
returns-in_err-visit c =
    let p = err_from_is_err_and c.from_residual.result c.from_residual.ensures.1 in
    rw (p.1, p.2)
    (stops_at c.in_err-visit.field-0.0 c.in-Some.piece c.args.walk.now c.loop.walk c.next.new.self c.visit.new.walk c.loop.invariant.comes c.next.ensures.site c.in-Some.ensures.next c.in_err-visit.ensures)
