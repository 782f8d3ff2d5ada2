use Rattle.std.proofs.Common.{Err, refl, ap}
use Rattle.acute_files.specs.declared.shelf.TextsFault.{TextsFault}
use Rattle.acute_top.proofs.PipeLaws.{end_unsent}
use Rattle.acute_top.proofs.piping.pipe_files.Goals as goal

pub returns-in-Ok-clause-ends : goal.returns-in-Ok-clause-ends
returns-in-Ok-clause-ends g c = c.pipe_texts.ensures.ends _ c.in-Ok.ensures.shelf c.in-Ok.ensures.program

pub returns-in-Err-clause-ends : goal.returns-in-Err-clause-ends
returns-in-Err-clause-ends g c =
    let e = c.in-Err.ensures in
    end_unsent _ _ _ _ _ _ _ (record { same = refl }) (record { started = λ told. refl; left = λ told. refl }) c.in-Err.fault (λ n is. e.line n (ap (λ (f : TextsFault). Err f) is)) (λ is. e.failed (ap (λ (f : TextsFault). Err f) is)) _ c.tell_unread.ensures
