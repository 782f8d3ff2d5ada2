use Rattle.std.proofs.Common.{◌≡◌, arith, length}
use Rattle.sha2.specs.Sha256.{sha256}
use Rattle.ac_terms.specs.Read.{def_of_code}
use Rattle.ac_syntax.specs.ReadTrees.{def_tree_of}
use Rattle.ac_resolve_scopes.specs.Definitions.{after_def}
use Rattle.ac_resolve_scopes.specs.Unbound.{unbound_in_def}
use Rattle.ac_resolve_scopes.specs.Counts.{large_in_def}
use Rattle.ac_resolve_names.specs.Entries.{own_entry}
use Rattle.ac_resolve_names.specs.Fronts.{front_of}
use Rattle.ac_resolve_terms.proofs.Growing.{behind_more, behind_all, none_here, none_behind}
use Rattle.ac_resolve_terms.proofs.Surfaced.{demand_bound, def_fits, behind_def, counted_more}
use Rattle.ac_resolve_terms.proofs.program.defs.Goals as goal

pub def-requires : goal.def-requires
def-requires c =
    let S = front_of c.loop-tree.front in
    let d = def_tree_of c.tree-item.result in
    record {
      bound = demand_bound S d (none_here def_tree_of (after_def sha256) unbound_in_def S c.loop-tree.tree-index c.args.trees.now c.tree-item.result c.loop-tree-test.true c.tree-item.is c.loop-tree.invariant.bound);
      fits = def_fits S d (none_here def_tree_of (after_def sha256) large_in_def S c.loop-tree.tree-index c.args.trees.now c.tree-item.result c.loop-tree-test.true c.tree-item.is c.loop-tree.invariant.within);
    }

pub loop-tree-preserved : goal.loop-tree-preserved
loop-tree-preserved c =
    let S = front_of c.loop-tree.front in
    let T = front_of c.in_ok-more.more in
    let i = c.loop-tree.tree-index in
    let xs = c.args.trees.now in
    let x = c.tree-item.result in
    let e = behind_def S T (def_tree_of x) (def_of_code c.in_ok-def.def) c.in_ok-def.ensures c.in_ok-more.ensures in
    record {
      bound = none_behind def_tree_of (after_def sha256) unbound_in_def S T i xs x c.loop-tree-test.true c.tree-item.is e c.loop-tree.invariant.bound;
      within = none_behind def_tree_of (after_def sha256) large_in_def S T i xs x c.loop-tree-test.true c.tree-item.is e c.loop-tree.invariant.within;
      counted = counted_more S T (own_entry S.entries (def_of_code c.in_ok-def.def)) _ i c.in_ok-more.ensures c.loop-tree.invariant.counted;
      left = behind_more def_tree_of (after_def sha256) _ S T i xs x c.loop-tree-test.true c.tree-item.is e c.loop-tree.invariant.left;
    }

pub returns : goal.returns
returns c =
    let e : c.loop-tree.tree-index ≡ length c.args.trees.now = omega arith in
    behind_all def_tree_of (after_def sha256) _ (front_of c.loop-tree.front) c.loop-tree.tree-index c.args.trees.now e c.loop-tree.invariant.left
