use Rattle.std.proofs.Common.{◌≡◌, ◌++◌, map, drop, length, None}
use Rattle.ac_types.specs.ReadTypes.{typed_of}
use Rattle.ac_terms.specs.Read.{field_of}
use Rattle.ac_syntax.specs.ReadTrees.{field_tree_of}
use Rattle.ac_resolve_scopes.specs.Scopes.{each_in}
use Rattle.ac_resolve_scopes.specs.Definitions.{after_field, item_type, item_field}
use Rattle.ac_resolve_scopes.specs.Searches.{found_in_field, least_in}
use Rattle.ac_resolve_names.specs.Fronts.{front_of, outer_of}
use Rattle.ac_resolve_terms.specs.inner.Crowd.{crowd}
use Rattle.ac_resolve_terms.proofs.structs.contents.Given as goal

abbrev pub invariant-loop-tree : goal.invariant-loop-tree
invariant-loop-tree l = record {
  crowd : least_in after_field (found_in_field crowd) (outer_of l.found.abbrevs.outer) (map field_tree_of (drop l.tree-index l.trees)) ≡ None;
  counted : length (outer_of l.found.abbrevs.outer).fields ≡ length l.found.fields;
  types :
      each_in after_field item_type (front_of l.front) (map field_tree_of l.trees)
      ≡ map typed_of l.found.abbrevs.types ++ each_in after_field item_type (outer_of l.found.abbrevs.outer) (map field_tree_of (drop l.tree-index l.trees));
  fields :
      each_in after_field item_field (front_of l.front) (map field_tree_of l.trees)
      ≡ map field_of l.found.fields ++ each_in after_field item_field (outer_of l.found.abbrevs.outer) (map field_tree_of (drop l.tree-index l.trees));
}
