use Rattle.std.proofs.Common.{◌≡◌, ◌++◌, drop, map}
use Rattle.std.specs.Prelude.{flat_map}
use Rattle.ac_types.specs.ReadTypes.{sig_type_of}
use Rattle.ac_terms.specs.SpelledBy.{sig_type_bytes}
use Rattle.ac_canon.proofs.sigs.put_sig_types.Given as goal

abbrev pub invariant-loop-x : goal.invariant-loop-x
invariant-loop-x g l =
    let bytes = sig_type_bytes (g.S.Spelling.spelled_type l.spelling) in
    l.out ++ flat_map bytes (map sig_type_of (drop l.x-index l.types)) ≡ l.initial.out ++ flat_map bytes (map sig_type_of l.types)
