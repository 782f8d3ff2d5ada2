use Rattle.std.proofs.Common.{◌∙◌, ap, sym, refl}
use Rattle.std.proofs.lemmas.Result.{err_from_is_err_and}
use Rattle.ac_syntax.specs.Trees.{tree_height}
use Rattle.ac_syntax.specs.ReadTrees.{tree_of}
use Rattle.ac_parser_patterns.proofs.ExprLaws.{tree_of-kind}
use Rattle.ac_parser_patterns.proofs.build.made.Goals as goal

pub returns-in_err-tree : goal.returns-in_err-tree
returns-in_err-tree c =
    let p = err_from_is_err_and c.from_residual.result c.from_residual.ensures.1 in
    rw p.1 p.2

pub returns : goal.returns
returns c =
    let is = ap tree_of c.in_ok-tree.ensures ∙ tree_of-kind c.args.at c.args.kind in
    record { tree = is; height = c.requires ∙ sym (ap tree_height is); left = refl }
