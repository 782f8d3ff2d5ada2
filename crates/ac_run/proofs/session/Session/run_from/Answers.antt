use Rattle.std.proofs.Common.{Some, IsTrue, map, refl, subst}
use Rattle.std.specs.List.{All}
use Rattle.ac_types.specs.Types.{Bytes}
use Rattle.ac_terms.specs.Terms.{Value}
use Rattle.ac_terms.specs.Read.{environment_of, expr_of}
use Rattle.ac_rules.specs.Views.{Mode}
use Rattle.ac_meaning.specs.Acts.{Outcome, receives_of}
use Rattle.ac_code.specs.ReadCode.{table_code}
use Rattle.ac_run.specs.Moments.{moment, AtReceive}
use Rattle.ac_run.specs.Sessions.{Session, HasLeft, ProgramEnds, RunsTo, streams}
use Rattle.ac_run.specs.inner.Inboxes.{MayCome, IsLeft}
use Rattle.ac_run.proofs.Starts.{can_run, stands_ready, run_done, left_done, reads_done}
use Rattle.ac_run.proofs.session.Session.run_from.Goals as goal

pub drive-end-requires : goal.drive-end-requires
drive-end-requires g c =
    let before : Session = record { program = c.self.inside.program; steps = c.self.inside.steps; sends = c.self.inside.sends; machine = c.self.inside.machine; end = c.self.inside.end; keeps = c.self.inside.journal.keeps; journal = c.self.inside.journal.crossings } in
    let ready = stands_ready (environment_of c.self.inside.program.env) (expr_of c.self.inside.program.main) c.self.inside.steps c.self.inside.table c.self.inside.machine c.self.inside.journal.crossings c.self.inside.end c.in_default.is c.self.invariant in
    can_run before g.W.Source.told c.self.inside.table c.args.inbox (g.W.Source.left c.args.world.now) (streams (g.W.World.console c.args.world.now) (g.W.World.channel c.args.world.now))
    c.self.inside.journal ready.1 ready.0

pub returns-clause-ends : goal.returns-clause-ends
returns-clause-ends g c = λ none.
    let old = streams (g.W.World.console c.args.world.now) (g.W.World.channel c.args.world.now) in
    let new = streams (g.W.World.console c.drive-end.new.world) (g.W.World.channel c.drive-end.new.world) in
    let before : Session = record { program = c.self.inside.program; steps = c.self.inside.steps; sends = c.self.inside.sends; machine = c.self.inside.machine; end = c.self.inside.end; keeps = c.self.inside.journal.keeps; journal = c.self.inside.journal.crossings } in
    let ready = stands_ready (environment_of c.self.inside.program.env) (expr_of c.self.inside.program.main) c.self.inside.steps c.self.inside.table c.self.inside.machine c.self.inside.journal.crossings c.self.inside.end c.in_default.is c.self.invariant in
    let after : Session = record { program = record c.self.inside.program { env = c.drive-end.new.env }; steps = c.self.inside.steps; sends = c.self.inside.sends; machine = c.drive-end.new.machine; end = Some c.twice-end.result.1; keeps = c.drive-end.new.journal.keeps; journal = c.drive-end.new.journal.crossings } in
    let moments = map (λ w. moment (g.W.Source.left w) (streams (g.W.World.console w) (g.W.World.channel w))) c.drive-end.ensures.ends.0 in
    subst (λ s. (first : Bytes) × MayCome c.args.inbox g.W.Source.told (g.W.Source.left c.args.world.now) first × ((input : Bytes) → IsLeft g.W.Source.told c.args.inbox first input → RunsTo g.W.Source.told s after input c.twice-end.result.0 old new)) c.self.view_is
    (run_done before g.W.Source.told c.self.inside.table c.args.inbox (g.W.Source.left c.args.world.now) old
    c.self.inside.journal ready.1 ready.0
    after (environment_of c.drive-end.new.env) (table_code c.drive-end.new.table) c.drive-end.new.inbox (g.W.Source.left c.drive-end.new.world) new c.drive-end.new.journal c.drive-end.result refl refl refl refl moments
    c.twice-end.result.0 c.twice-end.ensures.is c.drive-end.ensures.ends.2)

pub returns-clause-left : goal.returns-clause-left
returns-clause-left g c = λ none empty.
    let old = streams (g.W.World.console c.args.world.now) (g.W.World.channel c.args.world.now) in
    let new = streams (g.W.World.console c.drive-end.new.world) (g.W.World.channel c.drive-end.new.world) in
    let before : Session = record { program = c.self.inside.program; steps = c.self.inside.steps; sends = c.self.inside.sends; machine = c.self.inside.machine; end = c.self.inside.end; keeps = c.self.inside.journal.keeps; journal = c.self.inside.journal.crossings } in
    let ready = stands_ready (environment_of c.self.inside.program.env) (expr_of c.self.inside.program.main) c.self.inside.steps c.self.inside.table c.self.inside.machine c.self.inside.journal.crossings c.self.inside.end c.in_default.is c.self.invariant in
    let after : Session = record { program = record c.self.inside.program { env = c.drive-end.new.env }; steps = c.self.inside.steps; sends = c.self.inside.sends; machine = c.drive-end.new.machine; end = Some c.twice-end.result.1; keeps = c.drive-end.new.journal.keeps; journal = c.drive-end.new.journal.crossings } in
    let moments = map (λ w. moment (g.W.Source.left w) (streams (g.W.World.console w) (g.W.World.channel w))) c.drive-end.ensures.ends.0 in
    subst (λ s. (first : Bytes) × MayCome c.args.inbox g.W.Source.told (g.W.Source.left c.args.world.now) first × ((input : Bytes) → IsLeft g.W.Source.told c.args.inbox first input → IsTrue g.W.Source.told → (mode : Mode) (o : Outcome Value) → ProgramEnds mode s input o → HasLeft c.twice-end.result.0 o input (g.W.Source.left c.drive-end.new.world))) c.self.view_is
    (left_done before g.W.Source.told c.self.inside.table c.args.inbox (g.W.Source.left c.args.world.now) old
    c.self.inside.journal ready.1 ready.0
    after (environment_of c.drive-end.new.env) (table_code c.drive-end.new.table) c.drive-end.new.inbox (g.W.Source.left c.drive-end.new.world) new c.drive-end.new.journal c.drive-end.result refl refl refl refl moments
    c.twice-end.result.0 c.twice-end.ensures.is (c.drive-end.ensures.empty empty) c.drive-end.ensures.ends.2)

pub returns-clause-reads : goal.returns-clause-reads
returns-clause-reads g c = λ none.
    let old = streams (g.W.World.console c.args.world.now) (g.W.World.channel c.args.world.now) in
    let new = streams (g.W.World.console c.drive-end.new.world) (g.W.World.channel c.drive-end.new.world) in
    let before : Session = record { program = c.self.inside.program; steps = c.self.inside.steps; sends = c.self.inside.sends; machine = c.self.inside.machine; end = c.self.inside.end; keeps = c.self.inside.journal.keeps; journal = c.self.inside.journal.crossings } in
    let ready = stands_ready (environment_of c.self.inside.program.env) (expr_of c.self.inside.program.main) c.self.inside.steps c.self.inside.table c.self.inside.machine c.self.inside.journal.crossings c.self.inside.end c.in_default.is c.self.invariant in
    let after : Session = record { program = record c.self.inside.program { env = c.drive-end.new.env }; steps = c.self.inside.steps; sends = c.self.inside.sends; machine = c.drive-end.new.machine; end = Some c.twice-end.result.1; keeps = c.drive-end.new.journal.keeps; journal = c.drive-end.new.journal.crossings } in
    let moments = map (λ w. moment (g.W.Source.left w) (streams (g.W.World.console w) (g.W.World.channel w))) c.drive-end.ensures.ends.0 in
    let stands = subst (λ s. (first : Bytes) × MayCome c.args.inbox g.W.Source.told (g.W.Source.left c.args.world.now) first × ((input : Bytes) → IsLeft g.W.Source.told c.args.inbox first input → (mode : Mode) (o : Outcome Value) → ProgramEnds mode s input o → All (AtReceive g.W.Source.told (receives_of o) input old) moments)) c.self.view_is
    (reads_done before g.W.Source.told c.self.inside.table c.args.inbox (g.W.Source.left c.args.world.now) old
    c.self.inside.journal ready.1 ready.0
    after (environment_of c.drive-end.new.env) (table_code c.drive-end.new.table) c.drive-end.new.inbox (g.W.Source.left c.drive-end.new.world) new c.drive-end.new.journal c.drive-end.result refl refl refl refl moments
    c.drive-end.ensures.ends.2) in
    (c.drive-end.ensures.ends.0, c.drive-end.ensures.ends.1, stands)
