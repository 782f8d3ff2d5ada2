use Rattle.std.proofs.Common.{ap, refl, []}
use Rattle.ac_run.specs.Sessions.{Session}
use Rattle.acute_top.proofs.LeftLaws.{left_with, left_without}
use Rattle.acute_top.proofs.world.run_in.Goals as goal

pub returns-in-Some-clause-ends : goal.returns-in-Some-clause-ends
returns-in-Some-clause-ends g c = λ none.
    let e = c.run.ensures.ends none in
    record {
      input = e.0;
      gets = rw c.in-Some.is e.1;
      runs = e.2;
      budget = ap (λ (s : Session). s.steps) (c.run.ensures.kept none);
      leaves = left_with _ _ c.args.session.now _ _ _ _ e.1 (c.run.ensures.left none);
    }

pub returns-in-None-clause-ends : goal.returns-in-None-clause-ends
returns-in-None-clause-ends g c = λ none.
    record {
      input = [];
      gets = rw c.in-None.is refl;
      runs = c.run_without_input.ensures.ends none;
      budget = ap (λ (s : Session). s.steps) (c.run_without_input.ensures.kept none);
      leaves = rw c.in-None.is (left_without _ c.args.session.now _ _ _);
    }
