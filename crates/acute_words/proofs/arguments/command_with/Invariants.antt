use Rattle.std.proofs.Common.{◌≡◌, drop}
use Rattle.clap.specs.Words.{app_of}
use Rattle.acute_words.specs.inner.Apps.{app_by, with_arguments}
use Rattle.acute_words.proofs.arguments.command_with.Given as goal

abbrev pub invariant-loop-argument : goal.invariant-loop-argument
invariant-loop-argument l =
    with_arguments (app_of l.command) (drop l.argument-index l.arguments) ≡ app_by l.name l.arguments
