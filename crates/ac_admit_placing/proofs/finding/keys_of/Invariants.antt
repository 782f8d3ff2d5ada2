use Rattle.std.proofs.Common.{◌≡◌, map, take}
use Rattle.ac_terms.specs.Read.{entry_of}
use Rattle.ac_admit_placing.specs.inner.Keys.{keyed}
use Rattle.ac_admit_placing.specs.inner.Maps.{Key, key_found}
use Rattle.ac_admit_placing.proofs.finding.keys_of.Given as goal

abbrev pub invariant-loop-i : goal.invariant-loop-i
invariant-loop-i l = (k : Key) → key_found l.keys k ≡ keyed (map entry_of (take l.i l.entries)) k.items
