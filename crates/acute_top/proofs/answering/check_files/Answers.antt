use Rattle.std.proofs.Common.{Err, ap, refl}
use Rattle.ac_load.specs.Loading.{shelf_of}
use Rattle.acute_files.specs.Files.{files_seen, files_read}
use Rattle.acute_files.specs.declared.shelf.TextsFault.{TextsFault}
use Rattle.std.proofs.lemmas.Result.{IfOk-weaker}
use Rattle.acute_top.proofs.AnswerLaws.{answered, not_read}
use Rattle.acute_top.proofs.FileLaws.{texts_count}
use Rattle.acute_top.proofs.answering.check_files.Goals as goal

pub check-found-requires-clause-each : goal.check-found-requires-clause-each
check-found-requires-clause-each g c κs within =
    let seen = files_seen g.F.Files.contents g.F.Files.read_faults g.F.Files.write_faults in
    texts_count (files_read g.F.Files.told (seen c.args.files.now) (seen c.read_texts.new.files)) c.args.names.now c.in-Ok.texts.texts c.in-Ok.ensures.texts

pub returns-in-Ok-clause-ends : goal.returns-in-Ok-clause-ends
returns-in-Ok-clause-ends g c =
    let e = c.in-Ok.ensures in
    answered _ _ _ _ c.check-found.result
    (IfOk-weaker c.check-found.result _ _ (λ a checks. record {
      shelf = shelf_of c.in-Ok.texts.shelf;
      is_shelf = e.shelf;
      texts = c.in-Ok.texts.texts;
      are_texts = e.texts;
      checks = checks;
    }) c.check-found.ensures) _ c.deliver.ensures

pub returns-in-Err-clause-ends : goal.returns-in-Err-clause-ends
returns-in-Err-clause-ends g c =
    let e = c.in-Err.ensures in
    not_read _ _ _ _ (record { same = refl }) c.in-Err.fault (λ n is. e.line n (ap (λ (f : TextsFault). Err f) is)) (λ is. e.failed (ap (λ (f : TextsFault). Err f) is)) _ c.tell_unread.ensures
