use Rattle.std.proofs.Common.{◌≡◌, map, drop}
use Rattle.ac_syntax.specs.Trees.{pat_trees}
use Rattle.ac_syntax.specs.ReadTrees.{pat_of}
use Rattle.ac_resolve_signatures.specs.Joined.{flaws_joined}
use Rattle.ac_resolve_faults.specs.inner.PatFlaws.{pats_flaws}
use Rattle.ac_resolve_signatures.specs.Reads.{known_in}
use Rattle.ac_resolve_faults.proofs.patterns.+pat_flaws.Given as goal

abbrev pub invariant-pats_flaws-loop-tree : goal.invariant-pats_flaws-loop-tree
invariant-pats_flaws-loop-tree l =
    pats_flaws (known_in l.scan) (pat_trees (map pat_of l.trees)) ≡ flaws_joined l.found (pats_flaws (known_in l.scan) (pat_trees (map pat_of (drop l.tree-index l.trees))))
