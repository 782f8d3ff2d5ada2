use Rattle.std.proofs.Common.{◌≡◌, true, map, drop, length}
use Rattle.std.specs.List.{list_all}
use Rattle.sha2.specs.Sha256.{sha256}
use Rattle.ac_terms.specs.Bounds.{fits_def}
use Rattle.ac_terms.specs.Read.{environment_of, pdef_of}
use Rattle.ac_rules.specs.Packets.{place_all, places}
use Rattle.ac_admit_placing.specs.Placed.{state_of}
use Rattle.ac_admit_placing.specs.inner.State.{IsSound}
use Rattle.ac_admit_placing.proofs.placing.placed.Given as goal

abbrev pub invariant-loop-def : goal.invariant-loop-def
invariant-loop-def l =
    let E = environment_of l.env in
    record {
      sound : IsSound E l.placing;
      many : length l.placing.places ≡ l.def-index;
      fits : list_all fits_def (map pdef_of (drop l.def-index l.defs)) ≡ true;
      left : place_all sha256 E (state_of E l.placing) (map pdef_of (drop l.def-index l.defs)) ≡ places sha256 E (map pdef_of l.defs);
    }
