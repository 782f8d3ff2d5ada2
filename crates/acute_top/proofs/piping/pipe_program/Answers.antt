use Rattle.std.proofs.Common.{sym, ◌∙◌, ap}
use Rattle.std.proofs.lemmas.List.{append-nil}
use Rattle.acute_top.proofs.PipeLaws.{end_piped}
use Rattle.acute_top.proofs.piping.pipe_program.Goals as goal

pub returns-clause-ends : goal.returns-clause-ends
returns-clause-ends g c = λ files shelf text is_shelf is_text accepted.
    let e = c.run_pipe-end.ensures in
    end_piped _ _ _ files _ _ _ shelf is_shelf text is_text c.args.loaded accepted c.requires.loaded.program c.run_pipe-end.result e.child (λ none told. ap g.O.Sink.written (e.unprinted none) ∙ sym (append-nil _)) (e.ran text shelf accepted) e.cause_write _ c.tell_piped.ensures
