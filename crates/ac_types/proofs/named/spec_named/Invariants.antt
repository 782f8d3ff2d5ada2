use Rattle.std.proofs.Common.{◌≡◌, drop, map}
use Rattle.std.specs.List.{find}
use Rattle.ac_types.specs.Types.{same_bytes}
use Rattle.ac_types.specs.Sigs.{type_under}
use Rattle.ac_types.specs.ReadTypes.{sig_type_of}
use Rattle.ac_types.proofs.named.spec_named.Given as goal

abbrev pub invariant-loop-x : goal.invariant-loop-x
invariant-loop-x l = record {
  first : find (λ s. same_bytes s.name l.name) (drop l.x-index l.types) ≡ find (λ s. same_bytes s.name l.name) l.types;
  manifest : type_under l.name (map sig_type_of (drop l.x-index l.types)) ≡ type_under l.name (map sig_type_of l.types);
}
