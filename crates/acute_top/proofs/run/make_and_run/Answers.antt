use Rattle.std.proofs.Common.{refl, sym}
use Rattle.std.proofs.lemmas.List.{append-nil}
use Rattle.ac_outside.specs.declared.traits.Put.TheVariants as put
use Rattle.acute_top.specs.Stages.{AtFile, InRun}
use Rattle.acute_top.proofs.PlaceLaws.{prepared, made_at_most, making_failed, making_keeps}
use Rattle.acute_top.proofs.RunLaws.{unmade_in, lost_making}
use Rattle.acute_top.proofs.run.make_and_run.Goals as goal

pub returns-in-Done-clause-ends : goal.returns-in-Done-clause-ends
returns-in-Done-clause-ends g c = (
  InRun,
  (c.run_session.ensures.idle, (c.make_channel.new.files, c.in-Done.ensures.touches, (c.run_session.ensures.only, c.run_session.ensures.uses))),
  λ start since loaded is_loaded is shelf is_shelf text is_text accepted.
      c.run_session.ensures.ends start (prepared _ _ _ _ _ since c.in-Done.ensures.makes) loaded is_loaded is shelf is_shelf text is_text accepted,
)

pub returns-in-Failed-clause-ends : goal.returns-in-Failed-clause-ends
returns-in-Failed-clause-ends g c = (
  AtFile,
  (refl, c.in-Failed.ensures.touches),
  λ start since loaded is_loaded is shelf is_shelf text is_text accepted.
      unmade_in _ _ _ _ _ shelf is_shelf text is_text loaded accepted is_loaded.program (making_failed _ _ _ _ _ _ _ _ _ since c.in-Failed.ensures.makes) (λ told. sym (append-nil _)) (made_at_most _ _ _ _ _ _ _ _ _ put.Failed (λ e. absurd cc) since c.in-Failed.ensures.makes) refl _ c.say.ensures.said,
)

pub returns-in-Memory-clause-ends : goal.returns-in-Memory-clause-ends
returns-in-Memory-clause-ends g c = (
  AtFile,
  (refl, c.in-Memory.ensures.touches),
  λ start since loaded is_loaded is shelf is_shelf text is_text accepted.
      lost_making _ _ _ _ _ shelf is_shelf text is_text loaded accepted is_loaded.program (λ told. sym (append-nil _)) (made_at_most _ _ _ _ _ _ _ _ _ put.Memory (λ e. absurd cc) since c.in-Memory.ensures.makes) refl _ c.no_memory.ensures,
)

pub returns-in-Done-clause-kept : goal.returns-in-Done-clause-kept
returns-in-Done-clause-kept g c = λ told name h. making_keeps _ _ _ _ _ c.in-Done.ensures.makes told name h (c.run_session.ensures.kept told name h)

pub returns-in-Failed-clause-kept : goal.returns-in-Failed-clause-kept
returns-in-Failed-clause-kept g c = λ told name h. making_keeps _ _ _ _ _ c.in-Failed.ensures.makes told name h refl

pub returns-in-Memory-clause-kept : goal.returns-in-Memory-clause-kept
returns-in-Memory-clause-kept g c = λ told name h. making_keeps _ _ _ _ _ c.in-Memory.ensures.makes told name h refl
