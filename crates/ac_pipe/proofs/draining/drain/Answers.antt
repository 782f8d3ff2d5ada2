use Rattle.std.proofs.Common.{◌∙◌, arith, length-take}
use Rattle.ac_pipe.proofs.DrainLaws.{taken_more, drained_whole, drained_much}
use Rattle.ac_pipe.proofs.draining.drain.Goals as goal

pub loop-dropped-preserved : goal.loop-dropped-preserved
loop-dropped-preserved g c =
    let i = c.loop-dropped.invariant in
    let b = c.in-Bytes.ensures in
    record {
      running = b.running;
      within = omega (arith, b.bound, length-take c.min-room.result c.loop-dropped.buffer);
      taken = λ told. taken_more _ _ _ _ _ _ (b.bytes told) (b.rest told) (i.taken told);
      started = λ told. b.started told ∙ i.started told;
      status = λ told. b.status told ∙ i.status told;
      later = omega (arith, i.later, b.later);
      later_reads = omega (arith, i.later_reads, b.later_reads);
    }

pub returns-in-End-clause-drained : goal.returns-in-End-clause-drained
returns-in-End-clause-drained g c = λ told none. drained_whole _ _ _ c.read.new.buf (c.in-End.ensures.bytes told) (c.in-End.ensures.rest told)

pub returns-clause-drained : goal.returns-clause-drained
returns-clause-drained g c = λ told none. drained_much _ _ _ (omega arith) (c.loop-dropped.invariant.taken told)
