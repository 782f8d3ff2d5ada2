use Rattle.std.proofs.Common.{◌≡◌, [], ◌∷◌, Err, refl, ap}
use Rattle.ac_load.specs.Loading.{shelf_of}
use Rattle.acute_files.specs.Files.{files_seen}
use Rattle.acute_files.specs.ProgramTexts.{of_program}
use Rattle.acute_files.specs.declared.shelf.TextsFault.{TextsFault}
use Rattle.acute_files.specs.declared.shelf.TextsFault.TheVariants.{Failed}
use Rattle.acute_files.proofs.Wider.{at_once, to_end, wide_shelf, wide_rose, same_shelf, shelf_fails, map_ok}
use Rattle.acute_files.proofs.Turns.{shelf_then, shelf_tried}
use Rattle.acute_files.proofs.program.read_program.Goals as goal

pub returns-in-Ok-clause-shelf : goal.returns-in-Ok-clause-shelf
returns-in-Ok-clause-shelf g c =
    let seen = files_seen g.F.Files.contents g.F.Files.read_faults g.F.Files.write_faults in
    let w = at_once g.F.Files.told (seen c.args.files.now) (seen c.read_shelf.new.files) (seen c.read_beside.new.files) c.read_beside.ensures.later in
    map_ok c.read_beside.result _ _ (λ t is. same_shelf _ _ c.in-Ok.shelf t.shelf is (wide_shelf w c.in-Ok.ensures.shelf)) c.read_beside.ensures.shelf

pub returns-in-Ok-clause-failed : goal.returns-in-Ok-clause-failed
returns-in-Ok-clause-failed g c = λ e.
    let seen = files_seen g.F.Files.contents g.F.Files.read_faults g.F.Files.write_faults in
    let w = at_once g.F.Files.told (seen c.args.files.now) (seen c.read_shelf.new.files) (seen c.read_beside.new.files) c.read_beside.ensures.later in
    let v = to_end g.F.Files.told (seen c.args.files.now) (seen c.read_shelf.new.files) (seen c.read_beside.new.files) c.in-Ok.ensures.same c.in-Ok.ensures.later in
    of_program (shelf_of c.in-Ok.shelf) (wide_shelf w c.in-Ok.ensures.shelf) (wide_rose v _ (c.read_beside.ensures.failed e))

pub returns-in-Err-clause-failed : goal.returns-in-Err-clause-failed
returns-in-Err-clause-failed g c = λ e.
    let is : c.in-Err.fault ≡ Failed = cc in
    shelf_fails _ _ (c.in-Err.ensures.failed (ap (λ (f : TextsFault). Err f) is))

pub returns-in-Ok-clause-only : goal.returns-in-Ok-clause-only
returns-in-Ok-clause-only g c = shelf_then g.F.Files (c.args.program.now ∷ []) _ _ _ _ c.in-Ok.ensures.only (_, (c.read_beside.ensures.only, refl))

pub returns-in-Err-clause-only : goal.returns-in-Err-clause-only
returns-in-Err-clause-only g c = shelf_tried g.F.Files (c.args.program.now ∷ []) _ _ _ c.in-Err.ensures.only

pub returns-in-Ok-clause-behind : goal.returns-in-Ok-clause-behind
returns-in-Ok-clause-behind g c =
    map_ok c.read_beside.result _ _ (λ t is. λ names later turn. shelf_then g.F.Files (c.args.program.now ∷ names) _ _ _ _ c.in-Ok.ensures.only (_, (c.read_beside.ensures.only, turn))) c.read_beside.ensures.shelf
