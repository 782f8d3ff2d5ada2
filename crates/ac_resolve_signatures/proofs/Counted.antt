-- How many parts a form has, and counts that are cut behind their limits
use Rattle.std.proofs.Common.{◌≡◌, ap, refl, arith, ℕ, suc, min, List, [], ◌∷◌, map, length}
use Rattle.std.proofs.lemmas.Bool.Decides.{nat_tests}
use Rattle.ac_syntax.specs.declared.surface.SType.{SType}
use Rattle.ac_syntax.specs.declared.surface.SPat.{SPat}
use Rattle.ac_syntax.specs.declared.surface.SExpr.{SExpr}
use Rattle.ac_syntax.specs.declared.surface.SArm.{SArm}
use Rattle.ac_syntax.specs.Trees.{type_trees, pat_trees, trees, arm_trees}
use Rattle.ac_syntax.specs.ReadTrees.{type_tree_of, pat_of, tree_of, arm_tree_of}
use Rattle.ac_resolve_scopes.specs.Searches.{tree_count, arms_written}
use Rattle.ac_resolve_scopes.specs.Counts.{over, type_tree_count, pat_count}

pub type_count_of : (ts : List SType) → type_tree_count (type_trees (map type_tree_of ts)) ≡ length ts
type_count_of [] = refl
type_count_of (t ∷ ts) = ap suc (type_count_of ts)

pub pat_count_of : (ps : List SPat) → pat_count (pat_trees (map pat_of ps)) ≡ length ps
pat_count_of [] = refl
pat_count_of (p ∷ ps) = ap suc (pat_count_of ps)

pub tree_count_of : (es : List SExpr) → tree_count (trees (map tree_of es)) ≡ length es
tree_count_of [] = refl
tree_count_of (e ∷ es) = ap suc (tree_count_of es)

pub arm_count_of : (arms : List SArm) → arms_written (arm_trees (map arm_tree_of arms)) ≡ length arms
arm_count_of [] = refl
arm_count_of (a ∷ arms) = ap suc (arm_count_of arms)

-- a count that is cut behind its limit passes it as the whole does
pub over-min : (limit k : ℕ) → over limit (min k (suc limit)) ≡ over limit k
over-min limit k = grind (arith, nat_tests)

pub over_scope : (k : ℕ) → over 65535 (min k 65536) ≡ over 65535 k
over_scope k = over-min 65535 k

pub ruleset over_laws = (over_scope)
