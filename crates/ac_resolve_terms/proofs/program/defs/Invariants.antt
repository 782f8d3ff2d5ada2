use Rattle.std.proofs.Common.{◌≡◌, ◌+◌, map, drop, length, None}
use Rattle.sha2.specs.Sha256.{sha256}
use Rattle.ac_syntax.specs.ReadTrees.{def_tree_of}
use Rattle.ac_resolve_scopes.specs.Scopes.{after_all}
use Rattle.ac_resolve_scopes.specs.Definitions.{after_def}
use Rattle.ac_resolve_scopes.specs.Searches.{least_in}
use Rattle.ac_resolve_scopes.specs.Unbound.{unbound_in_def}
use Rattle.ac_resolve_scopes.specs.Counts.{large_in_def}
use Rattle.ac_resolve_names.specs.Fronts.{front_of}
use Rattle.ac_resolve_terms.proofs.program.defs.Given as goal

abbrev pub invariant-loop-tree : goal.invariant-loop-tree
invariant-loop-tree l = record {
  bound : least_in (after_def sha256) unbound_in_def (front_of l.front) (map def_tree_of (drop l.tree-index l.trees)) ≡ None;
  within : least_in (after_def sha256) large_in_def (front_of l.front) (map def_tree_of (drop l.tree-index l.trees)) ≡ None;
  counted : length (front_of l.front).entries ≡ length (front_of l.initial.front).entries + l.tree-index;
  left :
      after_all (after_def sha256) (front_of l.initial.front) (map def_tree_of l.trees)
      ≡ after_all (after_def sha256) (front_of l.front) (map def_tree_of (drop l.tree-index l.trees));
}
