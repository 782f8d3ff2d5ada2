use Rattle.std.proofs.Common.{Err, [], ◌∷◌, ap, refl, ◌∙◌}
use Rattle.ac_load.specs.Loading.{shelf_of}
use Rattle.acute_files.specs.Files.{seen}
use Rattle.acute_files.specs.declared.shelf.TextsFault.{TextsFault}
use Rattle.acute_files.proofs.Turns.{texts_more}
use Rattle.acute_files.proofs.Wider.{later_shelf}
use Rattle.acute_top.specs.Requests.{of_texts}
use Rattle.acute_top.proofs.AnswerLaws.{not_read}
use Rattle.acute_top.proofs.AuditLaws.{ended, wide_audited}
use Rattle.acute_top.proofs.auditing.audit_file.Goals as goal

pub returns-in-Ok-clause-ends : goal.returns-in-Ok-clause-ends
returns-in-Ok-clause-ends g c =
    let e = c.in-Ok.ensures in
    let old = seen g.F.Files c.args.files.now in
    let mid = seen g.F.Files c.read_program.new.files in
    let new = seen g.F.Files c.audit_texts.new.files in
    ended _ _ _ _ _ _ (shelf_of c.in-Ok.texts.shelf) (later_shelf g.F.Files.told old mid new e.shelf) c.in-Ok.texts.program.0 e.program _
    (wide_audited g.F.Files.told old mid new e.same e.later _ _ _ _ _ _ _ c.audit_texts.ensures.ends)

pub returns-in-Err-clause-ends : goal.returns-in-Err-clause-ends
returns-in-Err-clause-ends g c =
    let e = c.in-Err.ensures in
    not_read _ _ _ _ (record { same = refl }) c.in-Err.fault (λ n is. e.line n (ap (λ (f : TextsFault). Err f) is)) (λ is. of_texts (e.failed (ap (λ (f : TextsFault). Err f) is))) _ c.tell_unread.ensures

pub returns-in-Ok-clause-same : goal.returns-in-Ok-clause-same
returns-in-Ok-clause-same g c = λ told. c.audit_texts.ensures.since.same told ∙ c.in-Ok.ensures.same told

pub returns-in-Ok-clause-only : goal.returns-in-Ok-clause-only
returns-in-Ok-clause-only g c = c.in-Ok.ensures.behind (c.args.asked.channel.now ∷ []) _ (_, (c.audit_texts.ensures.only, refl))

pub returns-in-Err-clause-only : goal.returns-in-Err-clause-only
returns-in-Err-clause-only g c = texts_more g.F.Files _ (c.args.asked.channel.now ∷ []) _ _ c.in-Err.ensures.only
