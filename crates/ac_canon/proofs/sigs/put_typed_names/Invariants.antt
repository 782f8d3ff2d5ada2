use Rattle.std.proofs.Common.{◌≡◌, ◌++◌, drop, map}
use Rattle.std.specs.Prelude.{flat_map}
use Rattle.ac_types.specs.ReadTypes.{typed_of}
use Rattle.ac_terms.specs.SpelledBy.{typed_bytes}
use Rattle.ac_canon.proofs.sigs.put_typed_names.Given as goal

abbrev pub invariant-loop-x : goal.invariant-loop-x
invariant-loop-x g l =
    let bytes = typed_bytes (g.S.Spelling.spelled_type l.spelling) in
    l.out ++ flat_map bytes (map typed_of (drop l.x-index l.names)) ≡ l.initial.out ++ flat_map bytes (map typed_of l.names)
