use Rattle.std.proofs.Common.{◌≡◌, map, drop}
use Rattle.std.specs.Prelude.{option_map}
use Rattle.std.specs.Option.{option_or}
use Rattle.ac_types.specs.Types.{Bytes}
use Rattle.ac_types.specs.Sigs.{type_under}
use Rattle.ac_types.specs.ReadTypes.{sig_type_of}
use Rattle.ac_resolve_signatures.specs.EntriesInFront.{size_of_manifest}
use Rattle.ac_resolve_signatures.specs.Reads.{under}
use Rattle.ac_resolve_signatures.proofs.front.sizes_of.Given as goal

abbrev pub invariant-loop-ty : goal.invariant-loop-ty
invariant-loop-ty l = (t : Bytes) →
    option_or (under l.sizes t) (option_map size_of_manifest (type_under t (map sig_type_of (drop l.ty-index l.types)))) ≡ option_map size_of_manifest (type_under t (map sig_type_of l.types))
