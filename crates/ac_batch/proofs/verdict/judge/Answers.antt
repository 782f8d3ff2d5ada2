use Rattle.ac_load.specs.Loading.{shelf_of, Rejects}
use Rattle.ac_batch.specs.Verdicts.{accepted, refused}
use Rattle.ac_batch.proofs.Saying.{said}
use Rattle.ac_batch.proofs.verdict.judge.Goals as goal

pub returns-in-Ok : goal.returns-in-Ok
returns-in-Ok c = accepted c.in-Ok.ensures.accepted

pub returns-in_default : goal.returns-in_default
returns-in_default c =
    let r = c.in-Err.refusal in
    refused (said r.kind (Rejects c.args.text.now (shelf_of c.args.shelf.now) r.part r.kind) c.in_default.not-Memory c.in-Err.ensures.refused)
