-- The equations of the reading of patterns and expressions: one for all layers, and one for each form that holds a list.
use Rattle.std.proofs.Common.{◌≡◌, ◌∙◌, ap, ℕ, List, map}
use Rattle.ac_types.specs.ReadNumbers.{primitive_number}
use Rattle.ac_types.specs.declared.primitives.Primitive.{Primitive}
use Rattle.ac_syntax.specs.declared.surface.SPat.{SPat}
use Rattle.ac_syntax.specs.declared.surface.SPatKind.{SPatKind, Tuple as TuplePat}
use Rattle.ac_syntax.specs.declared.surface.SPatKind.TheOpen.{SPatKind-F, SPat-F}
use Rattle.ac_syntax.specs.declared.surface.SPatKind.TheFolds.{map-SPat, map-SPatKind, fold_out-SPat, fold_out-SPatKind}
use Rattle.ac_syntax.specs.declared.surface.SPatKind.TheViews.{out-SPat, out-SPatKind}
use Rattle.ac_syntax.specs.declared.surface.SPatKind.TheViews as pat_views
use Rattle.ac_syntax.specs.declared.surface.SPatKind.TheVariants as pat_variants
use Rattle.ac_syntax.specs.declared.surface.SExpr.{SExpr}
use Rattle.ac_syntax.specs.declared.surface.SArm.{SArm}
use Rattle.ac_syntax.specs.declared.surface.SFun.{SFun}
use Rattle.ac_syntax.specs.declared.surface.SExprKind.{SExprKind, Tuple, Seq, Op, Match, Try}
use Rattle.ac_syntax.specs.declared.surface.SExprKind.TheOpen.{SExprKind-F, SExpr-F, SArm-F, SFun-F}
use Rattle.ac_syntax.specs.declared.surface.SExprKind.TheFolds.{map-SExpr, map-SExprKind, map-SArm, map-SFun, fold_out-SExpr, fold_out-SExprKind, fold_out-SArm, fold_out-SFun}
use Rattle.ac_syntax.specs.declared.surface.SExprKind.TheViews.{out-SExpr, out-SExprKind, out-SArm, out-SFun, the_lemmas}
use Rattle.ac_syntax.specs.declared.surface.SExprKind.TheVariants as variants
use Rattle.ac_syntax.specs.Trees.{PatTree, PatTuple, pat_trees, Tree, ExTuple, ExSeq, ExOp, ExMatch, ExTry, trees, arm_trees}
use Rattle.ac_syntax.specs.ReadTrees.{pat_of, pat_kind_of, pat_kind_layer, pat_layer, FunTree, tree_of, expr_kind_of, arm_tree_of, fun_of, expr_kind_layer, expr_tree_layer, arm_tree_layer, fun_layer}

-- patterns: one layer, read
abbrev pub read_pat : SPat-F SPatKind SPat → SPat-F (ℕ → PatTree) PatTree
read_pat = map-SPat SPatKind SPat (ℕ → PatTree) PatTree pat_kind_of pat_of

abbrev pub read_pat_kind : SPatKind-F SPatKind SPat → SPatKind-F (ℕ → PatTree) PatTree
read_pat_kind = map-SPatKind SPatKind SPat (ℕ → PatTree) PatTree pat_kind_of pat_of

pub pat_out : (p : SPat) → pat_of p ≡ pat_layer (read_pat (out-SPat p))
unfolding pat_of pat_kind_of
pat_out p = fold_out-SPat (ℕ → PatTree) PatTree pat_kind_layer pat_layer p

pub pat_kind_out : (k : SPatKind) → pat_kind_of k ≡ pat_kind_layer (read_pat_kind (out-SPatKind k))
unfolding pat_of pat_kind_of
pat_kind_out k = fold_out-SPatKind (ℕ → PatTree) PatTree pat_kind_layer pat_layer k

pub pat_kind_of-Tuple : (ps : List SPat) (at : ℕ) → pat_kind_of (TuplePat ps) at ≡ PatTuple at (pat_trees (map pat_of ps))
pat_kind_of-Tuple ps at = ap (λ f. f at) (pat_kind_out (TuplePat ps) ∙ ap (λ x. pat_kind_layer (read_pat_kind x)) (pat_variants.outs-Tuple ps))

pub ruleset pat_laws = (pat_out, pat_kind_out, pat_kind_of-Tuple, pat_views.the_lemmas)

-- expressions: one layer, read
abbrev pub read_expr : SExpr-F SExprKind SArm SExpr SFun → SExpr-F (ℕ → Tree) (PatTree × Tree) Tree FunTree
read_expr = map-SExpr SExprKind SArm SExpr SFun (ℕ → Tree) (PatTree × Tree) Tree FunTree expr_kind_of arm_tree_of tree_of fun_of

abbrev pub read_expr_kind : SExprKind-F SExprKind SArm SExpr SFun → SExprKind-F (ℕ → Tree) (PatTree × Tree) Tree FunTree
read_expr_kind = map-SExprKind SExprKind SArm SExpr SFun (ℕ → Tree) (PatTree × Tree) Tree FunTree expr_kind_of arm_tree_of tree_of fun_of

abbrev pub read_arm : SArm-F SExprKind SArm SExpr SFun → SArm-F (ℕ → Tree) (PatTree × Tree) Tree FunTree
read_arm = map-SArm SExprKind SArm SExpr SFun (ℕ → Tree) (PatTree × Tree) Tree FunTree expr_kind_of arm_tree_of tree_of fun_of

abbrev pub read_fun : SFun-F SExprKind SArm SExpr SFun → SFun-F (ℕ → Tree) (PatTree × Tree) Tree FunTree
read_fun = map-SFun SExprKind SArm SExpr SFun (ℕ → Tree) (PatTree × Tree) Tree FunTree expr_kind_of arm_tree_of tree_of fun_of

pub expr_out : (e : SExpr) → tree_of e ≡ expr_tree_layer (read_expr (out-SExpr e))
unfolding tree_of expr_kind_of arm_tree_of fun_of
expr_out e = fold_out-SExpr (ℕ → Tree) (PatTree × Tree) Tree FunTree expr_kind_layer arm_tree_layer expr_tree_layer fun_layer e

pub expr_kind_out : (k : SExprKind) → expr_kind_of k ≡ expr_kind_layer (read_expr_kind (out-SExprKind k))
unfolding tree_of expr_kind_of arm_tree_of fun_of
expr_kind_out k = fold_out-SExprKind (ℕ → Tree) (PatTree × Tree) Tree FunTree expr_kind_layer arm_tree_layer expr_tree_layer fun_layer k

pub arm_out : (a : SArm) → arm_tree_of a ≡ arm_tree_layer (read_arm (out-SArm a))
unfolding tree_of expr_kind_of arm_tree_of fun_of
arm_out a = fold_out-SArm (ℕ → Tree) (PatTree × Tree) Tree FunTree expr_kind_layer arm_tree_layer expr_tree_layer fun_layer a

pub fun_out : (f : SFun) → fun_of f ≡ fun_layer (read_fun (out-SFun f))
unfolding tree_of expr_kind_of arm_tree_of fun_of
fun_out f = fold_out-SFun (ℕ → Tree) (PatTree × Tree) Tree FunTree expr_kind_layer arm_tree_layer expr_tree_layer fun_layer f

-- the kinds that hold a list
abbrev pub kind_at : ℕ → SExprKind-F SExprKind SArm SExpr SFun → Tree
kind_at at x = expr_kind_layer (read_expr_kind x) at

pub expr_kind_of-Tuple : (es : List SExpr) (at : ℕ) → expr_kind_of (Tuple es) at ≡ ExTuple at (trees (map tree_of es))
expr_kind_of-Tuple es at = ap (λ f. f at) (expr_kind_out (Tuple es)) ∙ ap (kind_at at) (variants.outs-Tuple es)

pub expr_kind_of-Seq : (es : List SExpr) (at : ℕ) → expr_kind_of (Seq es) at ≡ ExSeq at (trees (map tree_of es))
expr_kind_of-Seq es at = ap (λ f. f at) (expr_kind_out (Seq es)) ∙ ap (kind_at at) (variants.outs-Seq es)

pub expr_kind_of-Op : (p : Primitive) (es : List SExpr) (at : ℕ) → expr_kind_of (Op p es) at ≡ ExOp at (primitive_number p) (trees (map tree_of es))
expr_kind_of-Op p es at = ap (λ f. f at) (expr_kind_out (Op p es)) ∙ ap (kind_at at) (variants.outs-Op p es)

pub expr_kind_of-Match : (e : SExpr) (arms : List SArm) (at : ℕ) → expr_kind_of (Match e arms) at ≡ ExMatch at (tree_of e) (arm_trees (map arm_tree_of arms))
expr_kind_of-Match e arms at = ap (λ f. f at) (expr_kind_out (Match e arms)) ∙ ap (kind_at at) (variants.outs-Match e arms)

pub expr_kind_of-Try : (e : SExpr) (arms : List SArm) (at : ℕ) → expr_kind_of (Try e arms) at ≡ ExTry at (tree_of e) (arm_trees (map arm_tree_of arms))
expr_kind_of-Try e arms at = ap (λ f. f at) (expr_kind_out (Try e arms)) ∙ ap (kind_at at) (variants.outs-Try e arms)

pub ruleset expr_laws = (expr_out, expr_kind_out, arm_out, fun_out, expr_kind_of-Tuple, expr_kind_of-Seq, expr_kind_of-Op, expr_kind_of-Match, expr_kind_of-Try, the_lemmas)
