-- What is made of each part of a list, as a list of the definitions.
use Rattle.std.proofs.Common.{◌≡◌, ◌∙◌, ap, refl, ℕ, List, [], ◌∷◌, map, length, take}
use Rattle.ac_syntax.specs.declared.surface.SPat.{SPat}
use Rattle.ac_syntax.specs.declared.surface.SExpr.{SExpr}
use Rattle.ac_syntax.specs.declared.surface.SArm.{SArm}
use Rattle.ac_syntax.specs.Trees.{pat_trees, trees, arm_trees}
use Rattle.ac_syntax.specs.ReadTrees.{pat_of, tree_of, arm_tree_of}
use Rattle.ac_terms.specs.Terms.{Pattern, patterns, pattern', Expr, exprs, expr, arms, arm}
use Rattle.ac_terms.specs.Read.{pattern_of, expr_of, arm_of}
use Rattle.ac_terms.specs.declared.term.Term.{Term}
use Rattle.ac_terms.specs.declared.term.Arm.{Arm}
use Rattle.ac_terms.specs.declared.pat.Pat.{Pat}
use Rattle.ac_resolve_scopes.specs.Scopes.{NameScope}
use Rattle.ac_resolve_scopes.specs.Written.{pattern_in, patterns_in, in_arm, term_in, terms_in, arms_in}
use Rattle.ac_types.proofs.Loops.{built_all}

abbrev pub pattern_made : NameScope → SPat → Pattern
pattern_made S p = pattern_in S (pat_of p)

patterns_made : (S : NameScope) (ps : List SPat) → patterns (map (pattern_made S) ps) ≡ patterns_in S (pat_trees (map pat_of ps))
patterns_made S [] = refl
patterns_made S (p ∷ ps) = ap (pattern' (pattern_made S p)) (patterns_made S ps)

pub all_patterns : (S : NameScope) (made : List Pat) (i : ℕ) (ps : List SPat) → i ≡ length ps → map pattern_of made ≡ map (pattern_made S) (take i ps) → patterns (map pattern_of made) ≡ patterns_in S (pat_trees (map pat_of ps))
all_patterns S made i ps e so = ap patterns (built_all pattern_of (pattern_made S) made i ps e so) ∙ patterns_made S ps

abbrev pub term_made : NameScope → SExpr → Expr
term_made S e = term_in S (tree_of e)

terms_made : (S : NameScope) (es : List SExpr) → exprs (map (term_made S) es) ≡ terms_in S (trees (map tree_of es))
terms_made S [] = refl
terms_made S (e ∷ es) = ap (expr (term_made S e)) (terms_made S es)

pub all_terms : (S : NameScope) (made : List Term) (i : ℕ) (es : List SExpr) → i ≡ length es → map expr_of made ≡ map (term_made S) (take i es) → exprs (map expr_of made) ≡ terms_in S (trees (map tree_of es))
all_terms S made i es e so = ap exprs (built_all expr_of (term_made S) made i es e so) ∙ terms_made S es

abbrev pub arm_made : NameScope → SArm → Pattern × Expr
arm_made S a = (pattern_in S (arm_tree_of a).0, term_in (in_arm (arm_tree_of a).0 S) (arm_tree_of a).1)

arms_made : (S : NameScope) (cases : List SArm) → arms (map (arm_made S) cases) ≡ arms_in S (arm_trees (map arm_tree_of cases))
arms_made S [] = refl
arms_made S (a ∷ cases) = ap (arm (arm_made S a).0 (arm_made S a).1) (arms_made S cases)

pub all_arms : (S : NameScope) (made : List Arm) (i : ℕ) (cases : List SArm) → i ≡ length cases → map arm_of made ≡ map (arm_made S) (take i cases) → arms (map arm_of made) ≡ arms_in S (arm_trees (map arm_tree_of cases))
all_arms S made i cases e so = ap arms (built_all arm_of (arm_made S) made i cases e so) ∙ arms_made S cases
