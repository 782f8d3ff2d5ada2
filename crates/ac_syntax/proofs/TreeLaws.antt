-- The reading of a name after a module's name.
use Rattle.std.proofs.Common.{◌≡◌, ◌∙◌, ap}
use Rattle.ac_syntax.specs.declared.surface.SName.{SName}
use Rattle.ac_syntax.specs.declared.surface.SExpr.{SExpr}
use Rattle.ac_syntax.specs.declared.surface.SExprKind.{Of}
use Rattle.ac_syntax.specs.declared.surface.SExprKind.TheViews.{out-SExpr}
use Rattle.ac_syntax.specs.declared.surface.SExprKind.TheVariants as variants
use Rattle.ac_syntax.specs.Trees.{ExOf}
use Rattle.ac_syntax.specs.ReadTrees.{name_of, tree_of, expr_kind_of}
use Rattle.ac_syntax.proofs.ReadLaws.{expr_out, expr_kind_out, kind_at}

pub tree_of-Of : (e : SExpr) (m x : SName) → (out-SExpr e).kind ≡ Of m x → tree_of e ≡ ExOf (out-SExpr e).at (name_of m) (name_of x)
tree_of-Of e m x h =
    expr_out e ∙ ap (λ k. expr_kind_of k (out-SExpr e).at) h ∙ ap (λ f. f (out-SExpr e).at) (expr_kind_out (Of m x)) ∙ ap (kind_at (out-SExpr e).at) (variants.outs-Of m x)
