use Rattle.std.proofs.Common.{refl, subst}
use Rattle.ac_types.specs.Types.{Bytes}
use Rattle.ac_types.specs.ReadTypes.{typ_of}
use Rattle.ac_terms.specs.Read.{environment_of, expr_of}
use Rattle.ac_load.specs.Loading.{Loads, Rejects, shelf_of}
use Rattle.ac_load.specs.Kinds.{Says}
use Rattle.acute_top.specs.Stages.{AtTexts}
use Rattle.acute_top.proofs.RefusedLaws.{end_refusal}
use Rattle.acute_top.proofs.PlaceLaws.{untouched_by}
use Rattle.acute_top.proofs.run.run_texts.Goals as goal

pub returns-in-Ok-clause-ends : goal.returns-in-Ok-clause-ends
returns-in-Ok-clause-ends g c =
    let run = c.run_program.ensures.ends in
    let l = c.in-Ok.loaded in
    let shelf = shelf_of c.args.texts.shelf in (
      run.0,
      run.1,
      λ start since is_shelf is_text.
          run.2 start since shelf is_shelf c.args.texts.program.0 is_text
          (subst (λ (text : Bytes). Loads text shelf (environment_of l.env) (expr_of l.main) (typ_of l.ty)) c.as_slice.ensures c.in-Ok.ensures.accepted),
    )

pub returns-clause-ends : goal.returns-clause-ends
returns-clause-ends g c =
    let r = c.in-Err.refusal in
    let shelf = shelf_of c.args.texts.shelf in
    let refused = subst (λ (text : Bytes). Says r.kind (Rejects text shelf r.part r.kind)) c.as_slice.ensures c.in-Err.ensures.refused in
    (AtTexts, (refl, refl), λ start since is_shelf is_text. end_refusal _ _ _ _ _ shelf is_shelf c.args.texts.program.0 is_text (record { same = refl }) (untouched_by _ _ _ _ _ _ _ _ since.same) refl r.part r.kind refused _ c.refuse.ensures)

pub returns-clause-kept : goal.returns-clause-kept
returns-clause-kept g c = λ told name h. refl
