use Rattle.std.proofs.Common.{◌≡◌, IsTrue, take}
use Rattle.ac_outside.specs.Outside.{NeverFall}
use Rattle.acute_files.specs.Files.{files_seen, files_read, names_in}
use Rattle.acute_files.specs.ManyTexts.{AreTexts}
use Rattle.acute_files.specs.ReadOrder.{ReadInTurn}
use Rattle.acute_files.proofs.texts.read_each.Given as goal

abbrev pub invariant-loop-i : goal.invariant-loop-i
invariant-loop-i g l = record {
  same : IsTrue g.F.Files.told → g.F.Files.contents l.files ≡ g.F.Files.contents l.fn.files;
  later : NeverFall (g.F.Files.read_faults l.fn.files) (g.F.Files.read_faults l.files);
  texts : AreTexts (files_read g.F.Files.told (files_seen g.F.Files.contents g.F.Files.read_faults g.F.Files.write_faults l.fn.files) (files_seen g.F.Files.contents g.F.Files.read_faults g.F.Files.write_faults l.files)) (names_in (take l.i l.names)) l.texts;
  only : ReadInTurn g.F.Files.reads (names_in (take l.i l.names)) l.fn.files l.files;
}
