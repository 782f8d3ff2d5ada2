use Rattle.std.proofs.Common.{◌≡◌, take}
use Rattle.ac_types.specs.Types.{Bytes}
use Rattle.ac_terms.specs.Read.{environment_of}
use Rattle.ac_admit_clashes.specs.inner.Known.{all_known, known_at, name_found}
use Rattle.ac_admit_clashes.proofs.known.names_of.Given as goal

abbrev pub invariant-loop-i : goal.invariant-loop-i
invariant-loop-i l = (n : Bytes) → name_found l.names n ≡ known_at (take l.i (all_known (environment_of l.env))) n
