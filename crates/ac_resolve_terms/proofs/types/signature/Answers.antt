use Rattle.std.proofs.Common.{◌≡◌, ◌∙◌, ap, arith, length}
use Rattle.ac_types.specs.ReadTypes.{sig_type_of, typed_of, sig_of}
use Rattle.ac_syntax.specs.ReadTrees.{spec_of}
use Rattle.ac_resolve_scopes.specs.Definitions.{after_spec, spec_type, spec_value}
use Rattle.ac_resolve_names.specs.Fronts.{front_of, outer_of}
use Rattle.ac_resolve_terms.proofs.Growing.{gives_none, gives_more, gives_all, sig_made}
use Rattle.ac_resolve_terms.proofs.types.signature.Goals as goal

pub loop-spec-init : goal.loop-spec-init
loop-spec-init c = record {
  types = gives_none spec_of after_spec spec_type sig_type_of c.new.result (front_of c.args.front.now) (outer_of c.outer.result) c.as_slice-specs.result.now c.outer.ensures.scope c.new.ensures;
  vals = gives_none spec_of after_spec spec_value typed_of c.new-2.result (front_of c.args.front.now) (outer_of c.outer.result) c.as_slice-specs.result.now c.outer.ensures.scope c.new-2.ensures;
}

pub loop-spec-preserved : goal.loop-spec-preserved
loop-spec-preserved c = record {
  types =
      gives_more spec_of after_spec spec_type _ _ _ (outer_of c.loop-spec.found.outer) (outer_of c.in_ok-more.more.outer) c.loop-spec.spec-index c.as_slice-specs.result.now c.spec-item.result
      c.loop-spec-test.true c.spec-item.is c.in_ok-more.ensures.outer c.in_ok-more.ensures.types c.loop-spec.invariant.types;
  vals =
      gives_more spec_of after_spec spec_value _ _ _ (outer_of c.loop-spec.found.outer) (outer_of c.in_ok-more.more.outer) c.loop-spec.spec-index c.as_slice-specs.result.now c.spec-item.result
      c.loop-spec-test.true c.spec-item.is c.in_ok-more.ensures.outer c.in_ok-more.ensures.vals c.loop-spec.invariant.vals;
}

pub returns : goal.returns
returns c =
    let e : c.loop-spec.spec-index ≡ length c.as_slice-specs.result.now = omega arith in
    ap sig_of c.into_sig.ensures ∙ sig_made c.loop-spec.found.types c.loop-spec.found.vals c.as_slice-specs.result.now c.args.tree.now (front_of c.args.front.now) c.as_slice-specs.ensures
    (gives_all spec_of after_spec spec_type _ _ (outer_of c.loop-spec.found.outer) c.loop-spec.spec-index c.as_slice-specs.result.now e c.loop-spec.invariant.types)
    (gives_all spec_of after_spec spec_value _ _ (outer_of c.loop-spec.found.outer) c.loop-spec.spec-index c.as_slice-specs.result.now e c.loop-spec.invariant.vals)
