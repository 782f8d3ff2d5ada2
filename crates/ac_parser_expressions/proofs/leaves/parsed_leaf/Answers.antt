use Rattle.std.proofs.Common.{◌∙◌, ap, sym, subst}
use Rattle.std.proofs.lemmas.Result.{err_from_is_err_and}
use Rattle.ac_syntax.specs.Trees.{tree_height}
use Rattle.ac_syntax.specs.ReadSigns.{read_signs}
use Rattle.ac_syntax.specs.ReadTrees.{tree_of}
use Rattle.ac_syntax.specs.declared.surface.SExpr.{SExpr}
use Rattle.ac_parser_expressions.specs.inner.Levels.{FormLeafAt}
use Rattle.ac_parser_expressions.proofs.leaves.parsed_leaf.Goals as goal

pub returns-in_err-tree : goal.returns-in_err-tree
returns-in_err-tree c =
    let p = err_from_is_err_and c.from_residual.result c.from_residual.ensures.1 in
    rw (p.1, p.2) c.in_err-tree.ensures

pub returns : goal.returns
returns c = record {
  tree = subst (λ (e : SExpr). FormLeafAt (read_signs c.args.signs.now) (tree_of e) (read_signs c.in_ok-tree.rest.now)) (sym c.in_ok-tree-2.ensures) c.in_ok-tree.ensures.found;
  height = sym (ap (λ (e : SExpr). tree_height (tree_of e)) c.in_ok-tree-2.ensures ∙ c.in_ok-tree.ensures.found.leaf);
  shorter = c.in_ok-tree.ensures.shorter;
}
