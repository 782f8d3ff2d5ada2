use Rattle.std.proofs.Common.{◌≡◌, true, drop, map}
use Rattle.std.specs.List.{list_all}
use Rattle.std.specs.Option.{option_map_or}
use Rattle.ac_types.specs.Types.{Typ}
use Rattle.ac_types.specs.Sigs.{Sig_type}
use Rattle.ac_types.specs.ReadTypes.{sig_type_of}
use Rattle.ac_terms.specs.Parts.{OfType}
use Rattle.ac_terms_renumber.proofs.defs.manifest_pass.Given as goal

abbrev pub invariant-loop-t : goal.invariant-loop-t
invariant-loop-t g l =
    let p = λ (t : Sig_type). option_map_or (λ (U : Typ). g.T.Test.passes l.test (OfType U)) t.manifest true in
    list_all p (map sig_type_of l.types) ≡ list_all p (map sig_type_of (drop l.t-index l.types))
