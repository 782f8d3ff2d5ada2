use Rattle.std.proofs.Common.{inl, [], ◌∷◌}
use Rattle.ac_meaning.specs.Writes.{Print}
use Rattle.ac_machine_engine.specs.Resumes.{with_unit}
use Rattle.ac_run.specs.Sessions.{streams}
use Rattle.ac_run.proofs.Courses.{begun_alone, print_made, answers}
use Rattle.ac_run.proofs.driver.print.Goals as goal

pub returns-in-Done-clause-served : goal.returns-in-Done-clause-served
returns-in-Done-clause-served g c =
    let old = streams (g.W.World.console c.args.world.now) (g.W.World.channel c.args.world.now) in
    let new = streams (g.W.World.console c.print.new.self) (g.W.World.channel c.print.new.self) in
    answers g.W.Source.told with_unit (Print c.args.piece.now ∷ []) c.args.machine.now c.resume_unit.new.self old new
    (print_made g.W.Source.told c.args.piece.now (g.W.World.console c.args.world.now) (g.W.World.console c.print.new.self) (g.W.World.channel c.args.world.now) (g.W.World.channel c.print.new.self) c.in-Done.ensures.bytes (λ t. (c.in-Done.ensures.others t).1))
    c.resume_unit.result c.going.result c.resume_unit.ensures.ok c.going.ensures.ok c.going.ensures.err

pub returns-in-Failed-clause-served : goal.returns-in-Failed-clause-served
returns-in-Failed-clause-served g c =
    begun_alone g.W.Source.told (Print c.args.piece.now) (streams (g.W.World.console c.args.world.now) (g.W.World.channel c.args.world.now)) (streams (g.W.World.console c.print.new.self) (g.W.World.channel c.print.new.self))
    (λ t. (c.in-Failed.ensures.bytes t, (c.in-Failed.ensures.others t).1))

pub returns-in-Memory-clause-served : goal.returns-in-Memory-clause-served
returns-in-Memory-clause-served g c =
    inl (begun_alone g.W.Source.told (Print c.args.piece.now) (streams (g.W.World.console c.args.world.now) (g.W.World.channel c.args.world.now)) (streams (g.W.World.console c.print.new.self) (g.W.World.channel c.print.new.self))
    (λ t. (c.in-Memory.ensures.bytes t, (c.in-Memory.ensures.others t).1)))
