use Rattle.std.proofs.Common.{◌≡◌, ◌++◌, map, drop}
use Rattle.ac_types.specs.ReadTypes.{sig_type_of, typed_of}
use Rattle.ac_syntax.specs.ReadTrees.{spec_of}
use Rattle.ac_resolve_scopes.specs.Scopes.{each_in}
use Rattle.ac_resolve_scopes.specs.Definitions.{after_spec, spec_type, spec_value}
use Rattle.ac_resolve_names.specs.Fronts.{front_of, outer_of}
use Rattle.ac_resolve_terms.proofs.types.signature.Given as goal

abbrev pub invariant-loop-spec : goal.invariant-loop-spec
invariant-loop-spec l = record {
  types :
      each_in after_spec spec_type (front_of l.front) (map spec_of l.specs)
      ≡ map sig_type_of l.found.types ++ each_in after_spec spec_type (outer_of l.found.outer) (map spec_of (drop l.spec-index l.specs));
  vals :
      each_in after_spec spec_value (front_of l.front) (map spec_of l.specs)
      ≡ map typed_of l.found.vals ++ each_in after_spec spec_value (outer_of l.found.outer) (map spec_of (drop l.spec-index l.specs));
}
