use Rattle.std.proofs.Common.{Err, ap, refl, subst}
use Rattle.ac_types.specs.Types.{Bytes}
use Rattle.ac_load.specs.Loading.{shelf_of}
use Rattle.acute_files.specs.declared.shelf.TextsFault.{TextsFault}
use Rattle.std.proofs.lemmas.Result.{IfOk-weaker}
use Rattle.acute_answers.specs.Answers.{answer_of}
use Rattle.acute_answers.specs.Showing.{Shows}
use Rattle.acute_top.proofs.AnswerLaws.{answered, not_read, gives_shown, list_shown, unread_shown}
use Rattle.acute_top.proofs.answering.show_file.Goals as goal

pub returns-in-Ok-clause-ends : goal.returns-in-Ok-clause-ends
returns-in-Ok-clause-ends g c =
    let e = c.in-Ok.ensures in
    let what = c.args.what in
    answered _ _ _ _ c.show-found.result
    (IfOk-weaker c.show-found.result _ _ (λ a shows. gives_shown _ _ what (answer_of a) (record {
      shelf = shelf_of c.in-Ok.texts.shelf;
      is_shelf = e.shelf;
      text = c.in-Ok.texts.program.0;
      is_text = e.program;
      shows = subst (λ (text : Bytes). Shows what text (shelf_of c.in-Ok.texts.shelf) (answer_of a)) c.as_slice.ensures shows;
    })) c.show-found.ensures) _ c.deliver.ensures

pub returns-in-Err-clause-ends : goal.returns-in-Err-clause-ends
returns-in-Err-clause-ends g c =
    let what = c.args.what in
    let e = c.in-Err.ensures in
    not_read _ _ _ _ (record { same = refl }) c.in-Err.fault (λ n is. list_shown _ _ what n (e.line n (ap (λ (f : TextsFault). Err f) is))) (λ is. unread_shown _ _ what (e.failed (ap (λ (f : TextsFault). Err f) is))) _ c.tell_unread.ensures
