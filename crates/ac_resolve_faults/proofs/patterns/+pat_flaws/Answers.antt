use Rattle.std.proofs.Common.{◌≡◌, refl, arith, length, map, List}
use Rattle.ac_syntax.specs.declared.surface.SPat.{SPat}
use Rattle.ac_syntax.specs.Trees.{pat_trees}
use Rattle.ac_syntax.specs.ReadTrees.{pat_of}
use Rattle.ac_resolve_signatures.specs.declared.flaws.Flaws.{Flaws}
use Rattle.ac_resolve_signatures.specs.KnownScopes.{KnownScope}
use Rattle.ac_resolve_faults.specs.inner.PatFlaws.{pat_flaws, pats_flaws}
use Rattle.ac_resolve_signatures.specs.Reads.{known_in}
use Rattle.ac_resolve_signatures.proofs.Leasts.{next_part, last_part}
use Rattle.ac_resolve_faults.proofs.patterns.+pat_flaws.Goals as goal

abbrev of_all : KnownScope → List SPat → Flaws
of_all K ps = pats_flaws K (pat_trees (map pat_of ps))

pub pats_flaws-loop-tree-preserved : goal.pats_flaws-loop-tree-preserved
pats_flaws-loop-tree-preserved t c =
    let K = known_in c.args.scan.now in
    next_part (of_all K) (λ p. pat_flaws K (pat_of p)) (λ p ps. refl) _ c.loop-tree.found c.pat_flaws-here.result c.join-found.result _ _ _ c.loop-tree-test.true c.tree-item.is c.loop-tree.invariant c.pat_flaws-here.ensures c.join-found.ensures

pub pats_flaws-returns : goal.pats_flaws-returns
pats_flaws-returns t c = let e : c.loop-tree.tree-index ≡ length c.args.trees.now = omega arith in last_part (of_all (known_in c.args.scan.now)) _ c.loop-tree.found _ _ refl e c.loop-tree.invariant
