use Rattle.std.proofs.Common.{◌∙◌, sym, ap, subst, []}
use Rattle.std.specs.Prelude.{◌&&◌}
use Rattle.ac_run.specs.Sessions.{Session, RunsTo, streams}
use Rattle.ac_pipe.proofs.ToldLaws.{first_told}
use Rattle.ac_pipe.proofs.piping.pipe.Goals as goal

pub returns-clause-ran : goal.returns-clause-ran
returns-clause-ran g c =
    let begun_is = c.in-Ok.ensures in
    let ran = c.run_on_child-end in
    let h = ran.ensures.ends (ap (λ (s : Session). s.end) begun_is) in
    let before = streams (g.O.Sink.written c.args.console.now) [] in
    let behind = streams (g.O.Sink.written ran.new.console) [] in
    record {
      machine = c.in-Ok.session.machine;
      last = ran.new.session;
      input = h.input;
      gets = λ told. sym (c.in-Done.ensures.left (first_told g.P.Spawner.told g.O.Sink.told told)) ∙ h.gets told;
      runs = subst (λ (s : Session). RunsTo (g.P.Spawner.told && g.O.Sink.told) s ran.new.session h.input ran.result before behind) begun_is h.runs;
      budget = h.budget ∙ ap (λ (s : Session). s.steps) begun_is;
    }
