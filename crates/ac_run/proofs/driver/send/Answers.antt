use Rattle.std.proofs.Common.{inl, [], ◌∷◌, ◌++◌, ◌≡◌, ◌∙◌, ap, subst}
use Rattle.ac_outside.specs.Outside.{Extends}
use Rattle.ac_outside.specs.Frames.{frame_of}
use Rattle.ac_meaning.specs.Writes.{Send}
use Rattle.ac_machine_engine.specs.Resumes.{with_unit}
use Rattle.ac_run.specs.Sessions.{streams}
use Rattle.ac_run.proofs.Courses.{begun_alone, send_made, answers}
use Rattle.ac_run.proofs.driver.send.Goals as goal

pub returns-in-Done-clause-served : goal.returns-in-Done-clause-served
returns-in-Done-clause-served g c =
    let old = streams (g.W.World.console c.args.world.now) (g.W.World.channel c.args.world.now) in
    let new = streams (g.W.World.console c.send.new.self) (g.W.World.channel c.send.new.self) in
    let frame : c.as_slice.result.now ≡ frame_of c.args.text.now = c.as_slice.ensures ∙ c.in-Ok.ensures in
    answers g.W.Source.told with_unit (Send c.args.text.now ∷ []) c.args.machine.now c.resume_unit.new.self old new
    (send_made g.W.Source.told c.args.text.now (g.W.World.console c.args.world.now) (g.W.World.console c.send.new.self) (g.W.World.channel c.args.world.now) (g.W.World.channel c.send.new.self) (λ t. (c.in-Done.ensures.others t).1) (λ t. c.in-Done.ensures.bytes t ∙ ap (λ l. g.W.World.channel c.args.world.now ++ l) frame))
    c.resume_unit.result c.going.result c.resume_unit.ensures.ok c.going.ensures.ok c.going.ensures.err

pub returns-in-Failed-clause-served : goal.returns-in-Failed-clause-served
returns-in-Failed-clause-served g c =
    let frame : c.as_slice.result.now ≡ frame_of c.args.text.now = c.as_slice.ensures ∙ c.in-Ok.ensures in
    begun_alone g.W.Source.told (Send c.args.text.now) (streams (g.W.World.console c.args.world.now) (g.W.World.channel c.args.world.now)) (streams (g.W.World.console c.send.new.self) (g.W.World.channel c.send.new.self))
    (λ t. ((c.in-Failed.ensures.others t).1, subst (Extends (g.W.World.channel c.args.world.now) (g.W.World.channel c.send.new.self)) frame (c.in-Failed.ensures.bytes t)))

pub returns-clause-served : goal.returns-clause-served
returns-clause-served g c =
    let frame : c.as_slice.result.now ≡ frame_of c.args.text.now = c.as_slice.ensures ∙ c.in-Ok.ensures in
    inl (begun_alone g.W.Source.told (Send c.args.text.now) (streams (g.W.World.console c.args.world.now) (g.W.World.channel c.args.world.now)) (streams (g.W.World.console c.send.new.self) (g.W.World.channel c.send.new.self))
    (λ t. ((c.in-Memory.ensures.others t).1, subst (Extends (g.W.World.channel c.args.world.now) (g.W.World.channel c.send.new.self)) frame (c.in-Memory.ensures.bytes t))))
