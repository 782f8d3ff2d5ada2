use Rattle.std.proofs.Common.{◌≡◌, ◌∙◌, ap, arith, length, map}
use Rattle.ac_types.specs.ReadTypes.{typed_of}
use Rattle.ac_syntax.specs.ReadTrees.{abbrev_of}
use Rattle.ac_resolve_scopes.specs.Definitions.{after_abbrev, abbrev_type}
use Rattle.ac_resolve_names.specs.Fronts.{front_of, outer_of}
use Rattle.ac_resolve_terms.proofs.Growing.{gives_none, gives_more, gives_all}
use Rattle.ac_resolve_terms.proofs.types.like.Goals as goal

pub loop-a-init : goal.loop-a-init
loop-a-init c =
    gives_none abbrev_of after_abbrev abbrev_type typed_of c.new-found.result.types (front_of c.args.front.now) (outer_of c.new-found.result.outer) c.args.abbrevs.now c.new-found.ensures.outer c.new-found.ensures.types

pub loop-a-preserved : goal.loop-a-preserved
loop-a-preserved c =
    gives_more abbrev_of after_abbrev abbrev_type _ _ _ (outer_of c.loop-a.found.outer) (outer_of c.in_ok-more.more.outer) c.loop-a.a-index c.args.abbrevs.now c.a-item.result
    c.loop-a-test.true c.a-item.is c.in_ok-more.ensures.outer c.in_ok-more.ensures.types c.loop-a.invariant

pub returns : goal.returns
returns c =
    let e : c.loop-a.a-index ≡ length c.args.abbrevs.now = omega arith in
    ap (map typed_of) c.into_types.ensures ∙ gives_all abbrev_of after_abbrev abbrev_type _ _ (outer_of c.loop-a.found.outer) c.loop-a.a-index c.args.abbrevs.now e c.loop-a.invariant
