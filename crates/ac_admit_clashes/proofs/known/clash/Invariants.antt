use Rattle.std.proofs.Common.{◌≡◌, drop}
use Rattle.sha2.specs.Sha256.{sha256}
use Rattle.ac_types.specs.Types.{Bytes}
use Rattle.ac_terms.specs.Read.{environment_of}
use Rattle.ac_rules.specs.Packets.{first_clash}
use Rattle.ac_admit_clashes.specs.inner.Known.{all_known, known_at, known_before, name_found, HasOneText}
use Rattle.ac_admit_clashes.proofs.known.clash.Given as goal

abbrev pub invariant-loop-i : goal.invariant-loop-i
invariant-loop-i l =
    let E = environment_of l.env in
    let A = environment_of l.alone in
    record {
      found : (n : Bytes) → name_found l.names n ≡ known_at (known_before E A l.i) n;
      one : HasOneText (known_before E A l.i);
      left : first_clash sha256 (all_known E) 0 (all_known A) ≡ first_clash sha256 (known_before E A l.i) l.i (drop l.i (all_known A));
    }
