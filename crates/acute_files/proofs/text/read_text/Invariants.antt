use Rattle.std.proofs.Common.{◌≡◌, ◌≤◌, ◌-◌, length, IsTrue}
use Rattle.ac_types.specs.Limits.{longest_read}
use Rattle.ac_outside.specs.Outside.{NeverFall}
use Rattle.acute_files.specs.inner.Fronts.{Begins}
use Rattle.acute_files.proofs.text.read_text.Given as goal

abbrev pub invariant-loop-len : goal.invariant-loop-len
invariant-loop-len g l = record {
  len_is : l.len ≡ length l.text.0;
  within : l.len ≤ longest_read;
  later : NeverFall (g.F.Files.read_faults l.fn.files) (g.F.Files.read_faults l.files);
  later_writes : NeverFall (g.F.Files.write_faults l.fn.files) (g.F.Files.write_faults l.files);
  begins : IsTrue g.F.Files.told → Begins (g.F.Files.contents l.fn.files l.fn.name) l.text.0;
  same : IsTrue g.F.Files.told → g.F.Files.contents l.files ≡ g.F.Files.contents l.fn.files;
  only : g.F.Files.reads l.fn.name l.fn.files l.files;
}

abbrev pub decreases-loop-len : goal.decreases-loop-len
decreases-loop-len g l = longest_read - l.len
