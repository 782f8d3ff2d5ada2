-- The reading of expressions that the code makes.
use Rattle.std.proofs.Common.{◌≡◌, ◌∙◌, ap, ℕ, ℤ, List}
use Rattle.ac_types.specs.ReadNumbers.{texted_number}
use Rattle.ac_types.specs.declared.exceptions.TextExn.{TextExn}
use Rattle.ac_types.specs.declared.text.Text.{Text}
use Rattle.ac_syntax.specs.declared.surface.SName.{SName}
use Rattle.ac_syntax.specs.declared.surface.SPat.{SPat}
use Rattle.ac_syntax.specs.declared.surface.SExpr.{SExpr}
use Rattle.ac_syntax.specs.declared.surface.SExprKind.{SExprKind, Int, Str, Var, Of, ExnOf}
use Rattle.ac_syntax.specs.declared.surface.SExprKind.TheFolds.{fold-roll-SExpr, fold-roll-SArm}
use Rattle.ac_syntax.specs.declared.surface.SExprKind.TheViews.{roll-SExpr, roll-SArm}
use Rattle.ac_syntax.specs.declared.surface.SExprKind.TheVariants as variants
use Rattle.ac_syntax.specs.Trees.{PatTree, Tree, ExInt, ExStr, ExVar, ExOf, ExExnOf}
use Rattle.ac_syntax.specs.ReadTrees.{FunTree, name_of, pat_of, tree_of, expr_kind_of, arm_tree_of, fun_of, expr_kind_layer, expr_tree_layer, arm_tree_layer, fun_layer}
use Rattle.ac_syntax.proofs.ReadLaws.{expr_kind_out, kind_at, expr_kind_of-Tuple, expr_kind_of-Seq, expr_kind_of-Op}

-- an expression that the code makes
pub tree_of-kind : (at : ℕ) (k : SExprKind) → tree_of (roll-SExpr (record { at = at; kind = k })) ≡ expr_kind_of k at
unfolding tree_of expr_kind_of arm_tree_of fun_of
tree_of-kind at k = fold-roll-SExpr (ℕ → Tree) (PatTree × Tree) Tree FunTree expr_kind_layer arm_tree_layer expr_tree_layer fun_layer (record { at = at; kind = k })

pub tree_of-Int : (at : ℕ) (n : ℤ) → tree_of (roll-SExpr (record { at = at; kind = Int n })) ≡ ExInt at n
tree_of-Int at n = tree_of-kind at (Int n) ∙ ap (λ f. f at) (expr_kind_out (Int n)) ∙ ap (kind_at at) (variants.outs-Int n)

pub tree_of-Str : (at : ℕ) (text : Text) → tree_of (roll-SExpr (record { at = at; kind = Str text })) ≡ ExStr at text.0
tree_of-Str at text = tree_of-kind at (Str text) ∙ ap (λ f. f at) (expr_kind_out (Str text)) ∙ ap (kind_at at) (variants.outs-Str text)

pub tree_of-Var : (at : ℕ) (w : List ℕ) → tree_of (roll-SExpr (record { at = at; kind = Var w })) ≡ ExVar at w
tree_of-Var at w = tree_of-kind at (Var w) ∙ ap (λ f. f at) (expr_kind_out (Var w)) ∙ ap (kind_at at) (variants.outs-Var w)

pub tree_of-Of : (at : ℕ) (m x : SName) → tree_of (roll-SExpr (record { at = at; kind = Of m x })) ≡ ExOf at (name_of m) (name_of x)
tree_of-Of at m x = tree_of-kind at (Of m x) ∙ ap (λ f. f at) (expr_kind_out (Of m x)) ∙ ap (kind_at at) (variants.outs-Of m x)

-- an arm that the code makes
pub arm_tree_of-made : (p : SPat) (e : SExpr) → arm_tree_of (roll-SArm (record { pat = p; body = e })) ≡ (pat_of p, tree_of e)
unfolding tree_of expr_kind_of arm_tree_of fun_of
arm_tree_of-made p e = fold-roll-SArm (ℕ → Tree) (PatTree × Tree) Tree FunTree expr_kind_layer arm_tree_layer expr_tree_layer fun_layer (record { pat = p; body = e })

pub expr_kind_of-ExnOf : (at : ℕ) (x : TextExn) (e : SExpr) → expr_kind_of (ExnOf x e) at ≡ ExExnOf at (texted_number x) (tree_of e)
expr_kind_of-ExnOf at x e = ap (λ f. f at) (expr_kind_out (ExnOf x e)) ∙ ap (kind_at at) (variants.outs-ExnOf x e)

-- the forms that hold a list
pub ruleset list_laws = (expr_kind_of-Tuple, expr_kind_of-Seq, expr_kind_of-Op)
