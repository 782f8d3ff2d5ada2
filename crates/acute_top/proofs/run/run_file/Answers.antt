use Rattle.std.proofs.Common.{◌∙◌, ap, refl, Err}
use Rattle.ac_outside.specs.Outside.{Contents}
use Rattle.acute_files.specs.declared.shelf.TextsFault.{TextsFault}
use Rattle.acute_files.specs.Files.{files_seen}
use Rattle.acute_files.proofs.Wider.{later_shelf}
use Rattle.acute_words.specs.Commands.{files_of}
use Rattle.acute_top.specs.Stages.{AtTexts}
use Rattle.acute_top.specs.inner.RunCommands.{from_of, to_of}
use Rattle.acute_top.proofs.EndingLaws.{end_unread}
use Rattle.acute_top.proofs.PlaceLaws.{untouched_by}
use Rattle.acute_top.proofs.StageLaws.{touches_run}
use Rattle.acute_top.proofs.run.run_file.Goals as goal

pub returns-in-Err-clause-ends : goal.returns-in-Err-clause-ends
returns-in-Err-clause-ends g c =
    let e = c.in-Err.ensures in
    (AtTexts, (refl, e.only), end_unread _ _ _ _ _ (record { same = refl }) (untouched_by _ _ _ _ _ _ _ _ e.same) refl c.in-Err.fault (λ n is. e.line n (ap (λ (f : TextsFault). Err f) is)) (λ is. e.failed (ap (λ (f : TextsFault). Err f) is)) _ c.tell_unread.ensures)

pub returns-in-Ok-clause-ends : goal.returns-in-Ok-clause-ends
returns-in-Ok-clause-ends g c =
    let e = c.in-Ok.ensures in
    let seen = files_seen g.F.Files.contents g.F.Files.read_faults g.F.Files.write_faults in
    let shelf = later_shelf g.F.Files.told (seen c.args.files.now) (seen c.read_program.new.files) (seen c.run_texts.new.files) e.shelf in
    let run = c.run_texts.ensures.ends in
    (run.0, touches_run g.F.Files (files_of c.args.run.program) c.args.run.steps (from_of c.args.run) (to_of c.args.run) run.0 c.args.files.now c.read_program.new.files c.run_texts.new.files _ _ e.only run.1, run.2 (seen c.args.files.now) (record { same = e.same; reads = e.later; writes = e.later_writes }) shelf e.program)

pub returns-in-Ok-clause-kept : goal.returns-in-Ok-clause-kept
returns-in-Ok-clause-kept g c = λ told name h. c.run_texts.ensures.kept told name h ∙ ap (λ (k : Contents). k name) (c.in-Ok.ensures.same told)

pub returns-in-Err-clause-kept : goal.returns-in-Err-clause-kept
returns-in-Err-clause-kept g c = λ told name h. ap (λ (k : Contents). k name) (c.in-Err.ensures.same told)
