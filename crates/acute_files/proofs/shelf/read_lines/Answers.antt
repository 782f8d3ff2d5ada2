use Rattle.std.proofs.Common.{List, subst}
use Rattle.std.specs.Prelude.{map}
use Rattle.acute_files.specs.declared.list.ShelfLine.{ShelfLine}
use Rattle.acute_files.specs.ShelfLists.{listed_of}
use Rattle.ac_load.specs.Loading.{shelf_of}
use Rattle.acute_files.specs.Files.{files_seen, files_read}
use Rattle.acute_files.specs.ProgramTexts.{AreListed}
use Rattle.acute_files.proofs.Wider.{is_shelf_by}
use Rattle.acute_files.proofs.Turns.{lines_read}
use Rattle.acute_files.proofs.shelf.read_lines.Goals as goal

pub returns-in-Ok-read_entries-clause-shelved : goal.returns-in-Ok-read_entries-clause-shelved
returns-in-Ok-read_entries-clause-shelved g c =
    let seen = files_seen g.F.Files.contents g.F.Files.read_faults g.F.Files.write_faults in
    let files = files_read g.F.Files.told (seen c.args.files.now) (seen c.read_entries.new.files) in
    let shelf = shelf_of c.in-Ok-read_entries.shelf in
    let listed : AreListed files (map listed_of c.in-Ok.lines) shelf = subst (λ (ls : List ShelfLine). AreListed files (map listed_of ls) shelf) c.as_slice.ensures c.in-Ok-read_entries.ensures.shelf in
    is_shelf_by files (map listed_of c.in-Ok.lines) shelf listed c.in-Ok.ensures.uris c.in-Ok.ensures.distinct

pub returns-in-Ok-read_entries-clause-only : goal.returns-in-Ok-read_entries-clause-only
returns-in-Ok-read_entries-clause-only g c = lines_read g.F.Files _ c.as_slice.result.now c.in-Ok.lines _ _ c.as_slice.ensures c.in-Ok.ensures.lists c.in-Ok-read_entries.ensures.only
