use Rattle.std.proofs.Common.{◌∙◌, ap, arith}
use Rattle.clap.specs.Simple.{app_of_fields}
use Rattle.clap.specs.Words.{app_of, with_rule}
use Rattle.acute_words.specs.inner.Apps.{with_arguments, without_help}
use Rattle.acute_words.proofs.Apps.{one_more}
use Rattle.acute_words.proofs.arguments.command_with.Goals as goal

pub loop-argument-init : goal.loop-argument-init
loop-argument-init c =
    ap (λ a. with_arguments a c.args.arguments.now) (ap app_of_fields c.disable_help_flag-command.ensures ∙ ap without_help c.new.ensures.app)

pub loop-argument-preserved : goal.loop-argument-preserved
loop-argument-preserved c =
    let before = app_of c.loop-argument.command in
    let here = c.in_ok-command.ensures.shape c.argument_in.ensures.global ∙ ap (with_rule before) c.argument_in.ensures.rule in
    one_more before (app_of c.in_ok-command.command) c.args.arguments.now c.loop-argument.argument-index _ (omega arith) here
    ∙ c.loop-argument.invariant
