use Rattle.std.proofs.Common.{◌≡◌, true, drop, map}
use Rattle.std.specs.List.{list_all}
use Rattle.ac_types.specs.Partial.{first_wrong}
use Rattle.ac_terms.specs.Bounds.{fits_def}
use Rattle.ac_terms.specs.Defs.{Entry}
use Rattle.ac_terms.specs.Read.{environment_of, entry_of}
use Rattle.ac_rules.specs.Modules.{is_well_formed}
use Rattle.ac_admit_formed.proofs.formed.ill_formed.Given as goal

abbrev pub invariant-loop-i : goal.invariant-loop-i
invariant-loop-i l =
    let E = environment_of l.env in
    record {
      fits : list_all (λ (e : Entry). fits_def e.def) (map entry_of (drop l.i l.entries)) ≡ true;
      left : first_wrong 0 (is_well_formed E) (map (λ (e : Entry). e.def) E) ≡ first_wrong l.i (is_well_formed E) (map (λ (e : Entry). e.def) (map entry_of (drop l.i l.entries)));
    }
