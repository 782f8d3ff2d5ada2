use Rattle.std.proofs.lemmas.Result.{err_from_is_err_and}
use Rattle.ac_syntax.specs.Trees.{ExAbsent}
use Rattle.ac_syntax.specs.ReadTrees.{type_tree_of}
use Rattle.ac_syntax.specs.declared.sign.Symbol.TheVariants.{Close}
use Rattle.ac_parser_patterns.specs.Pieces.{IsAscribed}
use Rattle.ac_parser_expressions.proofs.Following.{parts_read}
use Rattle.ac_parser_expressions.proofs.leaves.absent.Goals as goal

pub returns-in_err-ty : goal.returns-in_err-ty
returns-in_err-ty c =
    let p = err_from_is_err_and c.from_residual.result c.from_residual.ensures.1 in
    rw (p.1, p.2) c.in_err-ty.ensures

pub returns : goal.returns
returns c = parts_read (IsAscribed Close) (ExAbsent c.args.at) (type_tree_of c.in_ok-ty.ty) c.args.signs.now c.in_ok-ty.rest.now _ c.absent_at.result c.absent_at.ensures c.in_ok-ty.ensures.shorter c.in_ok-ty.ensures.found
