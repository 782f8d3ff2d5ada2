use Rattle.std.proofs.Common.{◌≡◌, map, drop}
use Rattle.std.specs.Option.{option_or}
use Rattle.ac_types.specs.Types.{Bytes}
use Rattle.ac_syntax.specs.ReadTrees.{spec_of}
use Rattle.ac_resolve_scopes.specs.Standard.{beside_name}
use Rattle.ac_resolve_signatures.specs.Joined.{flaws_joined}
use Rattle.ac_resolve_signatures.specs.KnownScopes.{known_outside}
use Rattle.ac_resolve_signatures.specs.SigFlaws.{past_spec, spec_flaws, flaws_in, spec_sizes}
use Rattle.ac_resolve_signatures.specs.Reads.{under, known_in, externals_of}
use Rattle.ac_resolve_signatures.proofs.sigs.walk.Given as goal

abbrev pub invariant-loop-spec : goal.invariant-loop-spec
invariant-loop-spec l = record {
  wrong :
      flaws_in past_spec spec_flaws (known_outside (externals_of l.externals)) (map spec_of l.specs) ≡ flaws_joined l.flaws (flaws_in past_spec spec_flaws (known_in l.scan) (map spec_of (drop l.spec-index l.specs)));
  sizes : (t : Bytes) →
      option_or (under l.types t) (beside_name t (spec_sizes (known_in l.scan) (map spec_of (drop l.spec-index l.specs)))) ≡ beside_name t (spec_sizes (known_outside (externals_of l.externals)) (map spec_of l.specs));
}
