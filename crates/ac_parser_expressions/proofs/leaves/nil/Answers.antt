use Rattle.std.proofs.Common.{arith}
use Rattle.std.proofs.lemmas.Result.{err_from_is_err_and}
use Rattle.ac_syntax.specs.Trees.{ExNil}
use Rattle.ac_syntax.specs.ReadTrees.{type_tree_of}
use Rattle.ac_syntax.specs.declared.sign.Symbol.TheVariants.{Close, CloseSquare}
use Rattle.ac_syntax.proofs.OnStop.{on_syntax_more}
use Rattle.ac_parser_patterns.specs.Pieces.{Behind, IsAscribed}
use Rattle.ac_parser_patterns.proofs.Readers.{no_symbol, behind, behind_none}
use Rattle.ac_parser_expressions.proofs.Following.{parts_read}
use Rattle.ac_parser_expressions.proofs.leaves.nil.Goals as goal

pub returns-in_err-behind : goal.returns-in_err-behind
returns-in_err-behind c =
    let p = err_from_is_err_and c.from_residual.result c.from_residual.ensures.1 in
    rw (p.1, p.2) (on_syntax_more _ no_symbol c.in_err-behind.ensures)

pub returns-in_err-ty : goal.returns-in_err-ty
returns-in_err-ty c =
    let p = err_from_is_err_and c.from_residual-in_err-ty.result c.from_residual-in_err-ty.ensures.1 in
    rw (p.1, p.2) (on_syntax_more _ (behind_none c.in_ok-behind.ensures.found) c.in_err-ty.ensures)

pub returns : goal.returns
returns c =
    parts_read (Behind CloseSquare (IsAscribed Close)) (ExNil c.args.at) (type_tree_of c.in_ok-ty.ty) c.args.signs.now c.in_ok-ty.rest.now _ c.nil_at.result c.nil_at.ensures (omega (arith, c.in_ok-behind.ensures.shorter, c.in_ok-ty.ensures.shorter)) (behind c.in_ok-behind.ensures.found c.in_ok-ty.ensures.found)
