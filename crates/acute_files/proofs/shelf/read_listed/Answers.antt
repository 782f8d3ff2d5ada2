use Rattle.std.proofs.Common.{◌∙◌, Err, inl, ap}
use Rattle.std.proofs.lemmas.Result.{MatchResult-weaker}
use Rattle.ac_load.specs.Loading.{shelf_of}
use Rattle.acute_files.specs.Files.{files_seen, files_read, reading, IsTextOf}
use Rattle.acute_files.specs.ProgramTexts.{bad_line}
use Rattle.acute_files.specs.inner.Failing.{of_the_list}
use Rattle.acute_files.specs.declared.text.ReadFault.{ReadFault}
use Rattle.acute_files.proofs.Pieces.{within_limit}
use Rattle.acute_files.proofs.Wider.{to_end, wide_give, wide_lines, lines_listed, lines_fail, map_ok}
use Rattle.acute_files.proofs.Turns.{list_read, list_tried}
use Rattle.acute_files.proofs.shelf.read_listed.Goals as goal

pub returns-in-Ok-clause-shelf : goal.returns-in-Ok-clause-shelf
returns-in-Ok-clause-shelf g c =
    let seen = files_seen g.F.Files.contents g.F.Files.read_faults g.F.Files.write_faults in
    let w = to_end g.F.Files.told (seen c.args.files.now) (seen c.read_text.new.files) (seen c.read_lines.new.files) c.in-Ok.ensures.same c.in-Ok.ensures.later in
    let text : IsTextOf (files_read g.F.Files.told (seen c.args.files.now) (seen c.read_lines.new.files) c.args.list.now) c.as_slice.result.now =
    λ told. let x = within_limit _ _ (c.in-Ok.ensures.text told) in (x.0, x.1, c.as_slice.ensures ∙ x.2) in
    map_ok c.read_lines.result _ _ (λ shelf give. lines_listed _ c.args.list.now c.as_slice.result.now (shelf_of shelf) text (wide_give w give)) c.read_lines.ensures.shelf

pub returns-in-Ok-clause-line : goal.returns-in-Ok-clause-line
returns-in-Ok-clause-line g c = λ n e.
    bad_line (record {
      text = c.as_slice.result.now;
      is_text = λ told. let x = within_limit _ _ (c.in-Ok.ensures.text told) in (x.0, x.1, c.as_slice.ensures ∙ x.2);
      is_answer = c.read_lines.ensures.line n e;
    })

pub returns-in-Ok-clause-failed : goal.returns-in-Ok-clause-failed
returns-in-Ok-clause-failed g c = λ e.
    let seen = files_seen g.F.Files.contents g.F.Files.read_faults g.F.Files.write_faults in
    let w = to_end g.F.Files.told (seen c.args.files.now) (seen c.read_text.new.files) (seen c.read_lines.new.files) c.in-Ok.ensures.same c.in-Ok.ensures.later in
    lines_fail _ c.args.list.now c.as_slice.result.now (λ told. let x = within_limit _ _ (c.in-Ok.ensures.text told) in (x.0, x.1, c.as_slice.ensures ∙ x.2)) (wide_lines w (c.read_lines.ensures.failed e))

pub returns-in-Err-Failed-clause-failed : goal.returns-in-Err-Failed-clause-failed
returns-in-Err-Failed-clause-failed g c = λ e. of_the_list (c.in-Err-Failed.ensures.cause (ap (λ (f : ReadFault). Err f) c.in-Err-Failed.field-0-is))

pub returns-in-Ok-clause-only : goal.returns-in-Ok-clause-only
returns-in-Ok-clause-only g c =
    let text : IsTextOf (reading g.F.Files c.args.files.now c.read_lines.new.files c.args.list.now) c.as_slice.result.now =
    λ told. let x = within_limit _ _ (c.in-Ok.ensures.text told) in (x.0, x.1, c.as_slice.ensures ∙ x.2) in
    MatchResult-weaker c.read_lines.result c.read_lines.ensures.only (λ _ lines. list_read g.F.Files _ _ _ _ _ text c.in-Ok.ensures.only lines) (λ _ lines. list_tried g.F.Files _ _ _ _ _ text c.in-Ok.ensures.only lines)

pub returns-in-Err-Failed-clause-only : goal.returns-in-Err-Failed-clause-only
returns-in-Err-Failed-clause-only g c = inl c.in-Err-Failed.ensures.only

pub returns-in-Err-Memory-clause-only : goal.returns-in-Err-Memory-clause-only
returns-in-Err-Memory-clause-only g c = inl c.in-Err-Memory.ensures.only
