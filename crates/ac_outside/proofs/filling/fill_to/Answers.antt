use Rattle.std.proofs.Common.{◌∙◌, length, refl, ap, arith}
use Rattle.ac_outside.proofs.ReaderLaws.{grown_none, grown_on, grown_same}
use Rattle.ac_outside.proofs.filling.fill_to.Goals as goal

pub loop-i-init : goal.loop-i-init
loop-i-init g c = (grind arith, c.requires, grown_none _, λ told. refl, omega arith, g.met.S.Source.passes_none _)

pub loop-i-preserved : goal.loop-i-preserved
loop-i-preserved g c =
    let i = c.loop-i.invariant in
    let e = c.in-Done.ensures in (
      grind arith,
      grind arith,
      grown_on _ _ _ i.2 e.added.0,
      λ told. i.3 told ∙ e.moves told,
      omega (arith, i.4, e.later),
      g.met.S.Source.passes_on _ _ _ i.5 e.passes,
    )

pub returns-then-has-want-clause-filled : goal.returns-then-has-want-clause-filled
returns-then-has-want-clause-filled g c = (c.loop-i.invariant.2, grind arith)

pub returns-then-has-want-clause-moves : goal.returns-then-has-want-clause-moves
returns-then-has-want-clause-moves g c = c.loop-i.invariant.3

pub returns-then-has-want-clause-passes : goal.returns-then-has-want-clause-passes
returns-then-has-want-clause-passes g c = c.loop-i.invariant.5

pub returns-in-End-clause-filled : goal.returns-in-End-clause-filled
returns-in-End-clause-filled g c =
    let size = ap length c.in-End.ensures.added in
    (grown_same _ _ _ c.loop-i.invariant.2 c.in-End.ensures.added, grind (arith, size))

pub returns-in-End-clause-moves : goal.returns-in-End-clause-moves
returns-in-End-clause-moves g c = λ told. (c.loop-i.invariant.3 told ∙ (c.in-End.ensures.moves told).0, (c.in-End.ensures.moves told).1)

pub returns-in-End-clause-passes : goal.returns-in-End-clause-passes
returns-in-End-clause-passes g c = g.met.S.Source.passes_on _ _ _ c.loop-i.invariant.5 c.in-End.ensures.passes

pub returns-in-Failed-clause-filled : goal.returns-in-Failed-clause-filled
returns-in-Failed-clause-filled g c =
    let size = ap length c.in-Failed.ensures.added in
    (grown_same _ _ _ c.loop-i.invariant.2 c.in-Failed.ensures.added, grind (arith, size))

pub returns-in-Failed-clause-moves : goal.returns-in-Failed-clause-moves
returns-in-Failed-clause-moves g c = λ told. c.loop-i.invariant.3 told ∙ c.in-Failed.ensures.moves told

pub returns-in-Failed-clause-passes : goal.returns-in-Failed-clause-passes
returns-in-Failed-clause-passes g c = g.met.S.Source.passes_on _ _ _ c.loop-i.invariant.5 c.in-Failed.ensures.passes

pub returns-in-Memory-clause-filled : goal.returns-in-Memory-clause-filled
returns-in-Memory-clause-filled g c =
    let size = ap length c.in-Memory.ensures.added in
    (grown_same _ _ _ c.loop-i.invariant.2 c.in-Memory.ensures.added, grind (arith, size))

pub returns-in-Memory-clause-passes : goal.returns-in-Memory-clause-passes
returns-in-Memory-clause-passes g c = g.met.S.Source.passes_on _ _ _ c.loop-i.invariant.5 c.in-Memory.ensures.passes

pub returns-clause-filled : goal.returns-clause-filled
returns-clause-filled g c = (c.loop-i.invariant.2, grind arith)

pub returns-clause-moves : goal.returns-clause-moves
returns-clause-moves g c = c.loop-i.invariant.3

pub returns-clause-passes : goal.returns-clause-passes
returns-clause-passes g c = c.loop-i.invariant.5
