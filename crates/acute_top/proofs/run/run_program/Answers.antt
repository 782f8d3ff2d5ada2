use Rattle.std.proofs.Common.{◌≡◌, ◌∙◌, refl, ap, Bool, Option, Some, None, is_some, option_map}
use Rattle.ac_run.specs.Course.{begun}
use Rattle.acute_words.specs.Commands.{channel_of}
use Rattle.acute_top.specs.Stages.{AtTexts}
use Rattle.acute_top.proofs.EndingLaws.{end_early}
use Rattle.acute_top.proofs.PlaceLaws.{untouched_by}
use Rattle.acute_top.proofs.run.run_program.Goals as goal

pub new-requires-clause-typed : goal.new-requires-clause-typed
new-requires-clause-typed g c = c.requires.loaded.program

pub new-requires-clause-bounds : goal.new-requires-clause-bounds
new-requires-clause-bounds g c = c.requires.loaded.fits

same_some : {A B : Type 0} (f : A → B) (o : Option A) → is_some o ≡ is_some (option_map f o)
same_some f None = refl
same_some f (Some x) = refl

pub returns-in-Ok-clause-ends : goal.returns-in-Ok-clause-ends
returns-in-Ok-clause-ends g c =
    let run = c.make_and_run-end.ensures.ends in (
      run.0,
      run.1,
      λ start since shelf is_shelf text is_text accepted.
          run.2 start since c.args.loaded c.requires.loaded
          (c.in-Ok.ensures ∙ ap (λ (b : Bool). begun c.args.loaded c.args.run.steps b c.in-Ok.session.machine) (c.is_some.ensures ∙ same_some channel_of c.args.run.output))
          shelf is_shelf text is_text accepted,
    )

pub returns-in-Err-clause-ends : goal.returns-in-Err-clause-ends
returns-in-Err-clause-ends g c = (AtTexts, (refl, refl), λ start since shelf is_shelf text is_text accepted. end_early _ _ _ _ _ (record { same = refl }) (untouched_by _ _ _ _ _ _ _ _ since.same) refl _ c.no_memory.ensures)
