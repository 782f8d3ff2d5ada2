use Rattle.std.proofs.Common.{◌≡◌, ◌∙◌, ap, sym, arith, length, map}
use Rattle.ac_types.specs.ReadTypes.{typed_of}
use Rattle.ac_terms.specs.Read.{field_of}
use Rattle.ac_syntax.specs.ReadTrees.{field_tree_of}
use Rattle.ac_resolve_scopes.specs.Scopes.{NameScope}
use Rattle.ac_resolve_scopes.specs.Definitions.{after_field, item_type, item_field}
use Rattle.ac_resolve_scopes.specs.Searches.{found_in_field, least_in}
use Rattle.ac_resolve_names.specs.Fronts.{front_of, outer_of}
use Rattle.ac_resolve_terms.specs.inner.Crowd.{crowd}
use Rattle.ac_resolve_terms.proofs.Growing.{gives_none, gives_more, gives_all, none_here, none_behind, count_more, few_now}
use Rattle.ac_resolve_terms.proofs.structs.contents.Goals as goal

pub loop-tree-init : goal.loop-tree-init
loop-tree-init c = record {
  crowd = ap (λ (S : NameScope). least_in after_field (found_in_field crowd) S (map field_tree_of c.args.trees.now)) c.new.ensures.outer ∙ c.requires.crowd;
  counted = ap length c.new.ensures.fields ∙ sym (ap length c.new-2.ensures);
  types = gives_none field_tree_of after_field item_type typed_of c.new.result.types (front_of c.args.front.now) (outer_of c.new.result.outer) c.args.trees.now c.new.ensures.outer c.new.ensures.types;
  fields = gives_none field_tree_of after_field item_field field_of c.new-2.result (front_of c.args.front.now) (outer_of c.new.result.outer) c.args.trees.now c.new.ensures.outer c.new-2.ensures;
}

pub with-requires : goal.with-requires
with-requires c = record {
  crowd = none_here field_tree_of after_field (found_in_field crowd) (outer_of c.loop-tree.found.abbrevs.outer) c.loop-tree.tree-index c.args.trees.now c.tree-item.result c.loop-tree-test.true c.tree-item.is c.loop-tree.invariant.crowd;
  few = few_now (outer_of c.loop-tree.found.abbrevs.outer) c.loop-tree.found.fields _ _ c.loop-tree.invariant.counted c.loop-tree.invariant.fields c.requires.few;
}

pub loop-tree-preserved : goal.loop-tree-preserved
loop-tree-preserved c =
    let S = outer_of c.loop-tree.found.abbrevs.outer in
    let T = outer_of c.in_ok-more.more.abbrevs.outer in
    let i = c.loop-tree.tree-index in
    let xs = c.args.trees.now in
    let x = c.tree-item.result in
    record {
      crowd = none_behind field_tree_of after_field (found_in_field crowd) S T i xs x c.loop-tree-test.true c.tree-item.is c.in_ok-more.ensures.outer c.loop-tree.invariant.crowd;
      counted = count_more S T (field_tree_of x) c.loop-tree.found.fields c.in_ok-more.more.fields c.loop-tree.invariant.counted c.in_ok-more.ensures.outer c.in_ok-more.ensures.fields;
      types = gives_more field_tree_of after_field item_type _ _ _ S T i xs x c.loop-tree-test.true c.tree-item.is c.in_ok-more.ensures.outer c.in_ok-more.ensures.types c.loop-tree.invariant.types;
      fields = gives_more field_tree_of after_field item_field _ _ _ S T i xs x c.loop-tree-test.true c.tree-item.is c.in_ok-more.ensures.outer c.in_ok-more.ensures.fields c.loop-tree.invariant.fields;
    }

pub returns : goal.returns
returns c =
    let e : c.loop-tree.tree-index ≡ length c.args.trees.now = omega arith in
    let S = outer_of c.loop-tree.found.abbrevs.outer in
    record {
      types = ap (map typed_of) c.into_contents.ensures.types ∙ gives_all field_tree_of after_field item_type _ _ S c.loop-tree.tree-index c.args.trees.now e c.loop-tree.invariant.types;
      fields = ap (map field_of) c.into_contents.ensures.fields ∙ gives_all field_tree_of after_field item_field _ _ S c.loop-tree.tree-index c.args.trees.now e c.loop-tree.invariant.fields;
    }
