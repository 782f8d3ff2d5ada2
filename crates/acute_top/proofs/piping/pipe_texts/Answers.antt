use Rattle.std.proofs.Common.{refl, subst}
use Rattle.ac_types.specs.Types.{Bytes}
use Rattle.ac_types.specs.ReadTypes.{typ_of}
use Rattle.ac_terms.specs.Read.{environment_of, expr_of}
use Rattle.ac_load.specs.Kinds.{Says}
use Rattle.ac_load.specs.Loading.{Loads, Rejects, shelf_of}
use Rattle.acute_top.proofs.PipeLaws.{end_refused}
use Rattle.acute_top.proofs.piping.pipe_texts.Goals as goal

pub returns-in-Ok-clause-ends : goal.returns-in-Ok-clause-ends
returns-in-Ok-clause-ends g c = λ files is_shelf is_text.
    let l = c.in-Ok.loaded in
    let shelf = shelf_of c.args.texts.shelf in
    c.pipe_program.ensures.ends files shelf c.args.texts.program.0 is_shelf is_text
    (subst (λ (text : Bytes). Loads text shelf (environment_of l.env) (expr_of l.main) (typ_of l.ty)) c.as_slice.ensures c.in-Ok.ensures.accepted)

pub returns-clause-ends : goal.returns-clause-ends
returns-clause-ends g c = λ files is_shelf is_text.
    let r = c.in-Err.refusal in
    let shelf = shelf_of c.args.texts.shelf in
    let refused = subst (λ (text : Bytes). Says r.kind (Rejects text shelf r.part r.kind)) c.as_slice.ensures c.in-Err.ensures.refused in
    end_refused _ _ _ files _ _ _ shelf is_shelf c.args.texts.program.0 is_text (record { same = refl }) (record { started = λ told. refl; left = λ told. refl }) r.part r.kind refused _ c.refuse.ensures
