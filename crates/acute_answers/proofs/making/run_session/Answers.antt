use Rattle.std.proofs.Common.{◌∙◌, ap, length}
use Rattle.ac_outside.specs.Kept.{Around}
use Rattle.std.proofs.lemmas.Result.{IfOk-weaker}
use Rattle.ac_run.specs.Sessions.{Session, streams}
use Rattle.acute_answers.specs.declared.status.TheConstants.Status.{FINISHED}
use Rattle.acute_answers.specs.Answers.{answer_of, printing}
use Rattle.acute_answers.specs.Making.{run_lines}
use Rattle.acute_answers.proofs.MadeLaws.{finished_each, raised_each, spent_each}
use Rattle.acute_answers.proofs.making.run_session.Goals as goal

pub returns-in-Finished : goal.returns-in-Finished
returns-in-Finished c =
    let none = ap (λ (w : Around). streams w.console w.channel) c.new-world.ensures in
    let count = ap length (c.as_slice-printed.ensures ∙ c.console.ensures) in
    IfOk-weaker c.print_lines.result _ _ (λ a is. finished_each c.args.modules c.args.bytes _ _ _ _ c.requires.sends none (answer_of a) (c.in-Finished.ensures.ends c.requires.fresh) (is ∙ ap (λ n. printing FINISHED (run_lines c.args.modules c.args.bytes n)) count)) c.print_lines.ensures

pub returns-in-Uncaught : goal.returns-in-Uncaught
returns-in-Uncaught c =
    let none = ap (λ (w : Around). streams w.console w.channel) c.new-world.ensures in
    IfOk-weaker c.uncaught.result _ _ (λ a is. raised_each c.args.modules c.args.bytes _ _ _ _ c.requires.sends none (answer_of a) c.in-Uncaught.exn (c.in-Uncaught.ensures.ends c.requires.fresh) is) c.uncaught.ensures

pub returns-in-Spent : goal.returns-in-Spent
returns-in-Spent c =
    let none = ap (λ (w : Around). streams w.console w.channel) c.new-world.ensures in
    let same = ap (λ (s : Session). s.steps) (c.in-Spent.ensures.kept c.requires.fresh) in
    IfOk-weaker c.spent.result _ _ (λ a is. spent_each c.args.modules c.args.bytes _ _ _ _ c.requires.sends none (answer_of a) c.in-Spent.steps same (c.in-Spent.ensures.ends c.requires.fresh) is) c.spent.ensures
