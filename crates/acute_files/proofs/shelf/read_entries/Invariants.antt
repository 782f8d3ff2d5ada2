use Rattle.std.proofs.Common.{◌≡◌, IsTrue, take, map, length}
use Rattle.ac_outside.specs.Outside.{NeverFall}
use Rattle.acute_files.specs.ShelfLists.{listed_of}
use Rattle.ac_load.specs.Loading.{shelved}
use Rattle.acute_files.specs.Files.{files_seen, files_read}
use Rattle.acute_files.specs.ProgramTexts.{AreListed}
use Rattle.acute_files.specs.ReadOrder.{ReadInTurn, files_listed}
use Rattle.acute_files.proofs.shelf.read_entries.Given as goal

abbrev pub invariant-loop-line : goal.invariant-loop-line
invariant-loop-line g l = record {
  same : IsTrue g.F.Files.told → g.F.Files.contents l.files ≡ g.F.Files.contents l.fn.files;
  later : NeverFall (g.F.Files.read_faults l.fn.files) (g.F.Files.read_faults l.files);
  later_writes : NeverFall (g.F.Files.write_faults l.fn.files) (g.F.Files.write_faults l.files);
  listed : AreListed (files_read g.F.Files.told (files_seen g.F.Files.contents g.F.Files.read_faults g.F.Files.write_faults l.fn.files) (files_seen g.F.Files.contents g.F.Files.read_faults g.F.Files.write_faults l.files)) (map listed_of (take l.line-index l.lines)) (map shelved l.entries);
  counted : length l.entries ≡ l.line-index;
  only : ReadInTurn g.F.Files.reads (files_listed (map listed_of (take l.line-index l.lines))) l.fn.files l.files;
}
