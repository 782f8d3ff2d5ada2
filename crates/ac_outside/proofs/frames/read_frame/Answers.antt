use Rattle.std.proofs.Common.{◌≡◌, ◌<◌, [], length, refl, arith}
use Rattle.ac_outside.proofs.ReaderLaws.{more_gives, more_goes, rose_on}
use Rattle.ac_outside.proofs.frames.read_frame.Goals as goal

pub returns-then-len-eq4-clause-part : goal.returns-then-len-eq4-clause-part
returns-then-len-eq4-clause-part g c = c.read_body.ensures.part

pub returns-then-len-eq4-clause-goes : goal.returns-then-len-eq4-clause-goes
returns-then-len-eq4-clause-goes g c = c.read_body.ensures.goes

pub returns-then-len-eq4-clause-gives : goal.returns-then-len-eq4-clause-gives
returns-then-len-eq4-clause-gives g c = c.read_body.ensures.gives

pub returns-then-len-eq4-clause-cause : goal.returns-then-len-eq4-clause-cause
returns-then-len-eq4-clause-cause g c = c.read_body.ensures.cause

pub returns-then-len-eq4-clause-later : goal.returns-then-len-eq4-clause-later
returns-then-len-eq4-clause-later g c = c.read_body.ensures.later

pub returns-then-len-eq4-clause-passes : goal.returns-then-len-eq4-clause-passes
returns-then-len-eq4-clause-passes g c = c.read_body.ensures.passes

pub returns-in-Done-clause-part : goal.returns-in-Done-clause-part
returns-in-Done-clause-part g c = c.read_body-in-Done.ensures.part

pub returns-in-Done-clause-goes : goal.returns-in-Done-clause-goes
returns-in-Done-clause-goes g c =
    let none : c.args.part.now.body.0 ≡ [] = c.requires.none (omega arith) in
    let some : 0 < length c.fill_to.new.text.0 = omega (arith, c.in-Done.ensures.filled.1) in
    more_goes c.read_body-in-Done.result _ _ _ _ none c.in-Done.ensures.filled.0 some c.read_body-in-Done.ensures.goes

pub returns-in-Done-clause-gives : goal.returns-in-Done-clause-gives
returns-in-Done-clause-gives g c = λ told.
    let none : c.args.part.now.body.0 ≡ [] = c.requires.none (omega arith) in
    more_gives c.read_body-in-Done.result _ _ _ _ _ _ _ none (c.in-Done.ensures.moves told) (c.read_body-in-Done.ensures.gives told)

pub returns-in-Done-clause-cause : goal.returns-in-Done-clause-cause
returns-in-Done-clause-cause g c = λ e. rose_on _ _ _ c.in-Done.ensures.later (c.read_body-in-Done.ensures.cause e)

pub returns-in-Done-clause-later : goal.returns-in-Done-clause-later
returns-in-Done-clause-later g c = omega (arith, c.in-Done.ensures.later, c.read_body-in-Done.ensures.later)

pub returns-in-Done-clause-passes : goal.returns-in-Done-clause-passes
returns-in-Done-clause-passes g c = g.met.S.Source.passes_on _ _ _ c.in-Done.ensures.passes c.read_body-in-Done.ensures.passes

pub returns-in-End-clause-later : goal.returns-in-End-clause-later
returns-in-End-clause-later g c = c.in-End.ensures.later

pub returns-in-End-clause-passes : goal.returns-in-End-clause-passes
returns-in-End-clause-passes g c = c.in-End.ensures.passes

pub returns-in-Failed-clause-cause : goal.returns-in-Failed-clause-cause
returns-in-Failed-clause-cause g c = λ e. c.in-Failed.ensures.cause refl

pub returns-in-Failed-clause-later : goal.returns-in-Failed-clause-later
returns-in-Failed-clause-later g c = c.in-Failed.ensures.later

pub returns-in-Failed-clause-passes : goal.returns-in-Failed-clause-passes
returns-in-Failed-clause-passes g c = c.in-Failed.ensures.passes

pub returns-in-Memory-clause-goes : goal.returns-in-Memory-clause-goes
returns-in-Memory-clause-goes g c = refl

pub returns-in-Memory-clause-cause : goal.returns-in-Memory-clause-cause
returns-in-Memory-clause-cause g c = λ e. cc

pub returns-in-Memory-clause-later : goal.returns-in-Memory-clause-later
returns-in-Memory-clause-later g c = c.in-Memory.ensures.later

pub returns-in-Memory-clause-passes : goal.returns-in-Memory-clause-passes
returns-in-Memory-clause-passes g c = c.in-Memory.ensures.passes
