use Rattle.std.proofs.Common.{◌≡◌, Err, ap}
use Rattle.ac_load.specs.Loading.{shelf_of}
use Rattle.acute_files.specs.Files.{files_seen, names_in}
use Rattle.acute_files.specs.ManyTexts.{of_text}
use Rattle.acute_files.specs.declared.shelf.TextsFault.{TextsFault}
use Rattle.acute_files.specs.declared.shelf.TextsFault.TheVariants.{Failed}
use Rattle.acute_files.proofs.Wider.{at_once, to_end, wide_shelf, same_shelf, map_ok}
use Rattle.acute_files.proofs.Turns.{wide_texts, wide_one, shelf_fails_too, shelf_then, shelf_tried}
use Rattle.acute_files.proofs.texts.read_texts.Goals as goal

pub returns-in-Ok-clause-shelf : goal.returns-in-Ok-clause-shelf
returns-in-Ok-clause-shelf g c =
    let seen = files_seen g.F.Files.contents g.F.Files.read_faults g.F.Files.write_faults in
    let w = at_once g.F.Files.told (seen c.args.files.now) (seen c.read_shelf.new.files) (seen c.read_beside_shelf.new.files) c.read_beside_shelf.ensures.later in
    map_ok c.read_beside_shelf.result _ _ (λ t is. same_shelf _ _ c.in-Ok.shelf t.shelf is (wide_shelf w c.in-Ok.ensures.shelf)) c.read_beside_shelf.ensures.shelf

pub returns-in-Ok-clause-texts : goal.returns-in-Ok-clause-texts
returns-in-Ok-clause-texts g c =
    let seen = files_seen g.F.Files.contents g.F.Files.read_faults g.F.Files.write_faults in
    let w = to_end g.F.Files.told (seen c.args.files.now) (seen c.read_shelf.new.files) (seen c.read_beside_shelf.new.files) c.in-Ok.ensures.same c.in-Ok.ensures.later in
    map_ok c.read_beside_shelf.result _ _ (λ t are. wide_texts w (names_in c.args.names.now) t.texts are) c.read_beside_shelf.ensures.texts

pub returns-in-Ok-clause-failed : goal.returns-in-Ok-clause-failed
returns-in-Ok-clause-failed g c = λ e.
    let seen = files_seen g.F.Files.contents g.F.Files.read_faults g.F.Files.write_faults in
    let w = at_once g.F.Files.told (seen c.args.files.now) (seen c.read_shelf.new.files) (seen c.read_beside_shelf.new.files) c.read_beside_shelf.ensures.later in
    let v = to_end g.F.Files.told (seen c.args.files.now) (seen c.read_shelf.new.files) (seen c.read_beside_shelf.new.files) c.in-Ok.ensures.same c.in-Ok.ensures.later in
    let one = wide_one v (c.read_beside_shelf.ensures.failed e) in
    of_text (shelf_of c.in-Ok.shelf) one.before one.after one.name (wide_shelf w c.in-Ok.ensures.shelf) one.among one.rose

pub returns-in-Err-clause-failed : goal.returns-in-Err-clause-failed
returns-in-Err-clause-failed g c = λ e.
    let is : c.in-Err.fault ≡ Failed = cc in
    shelf_fails_too _ _ (c.in-Err.ensures.failed (ap (λ (f : TextsFault). Err f) is))

pub returns-in-Ok-clause-only : goal.returns-in-Ok-clause-only
returns-in-Ok-clause-only g c = shelf_then g.F.Files (names_in c.args.names.now) _ _ _ _ c.in-Ok.ensures.only c.read_beside_shelf.ensures.only

pub returns-in-Err-clause-only : goal.returns-in-Err-clause-only
returns-in-Err-clause-only g c = shelf_tried g.F.Files (names_in c.args.names.now) _ _ _ c.in-Err.ensures.only
