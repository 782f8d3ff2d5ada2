use Rattle.std.proofs.Common.{arith}
use Rattle.std.proofs.lemmas.Result.{err_from_is_err_and}
use Rattle.ac_syntax.specs.ReadTrees.{type_tree_of}
use Rattle.ac_syntax.proofs.OnStop.{on_syntax_more}
use Rattle.ac_parser_patterns.specs.Pieces.{Behind, IsLastType}
use Rattle.ac_parser_patterns.proofs.Readers.{no_symbol, behind, behind_none}
use Rattle.ac_parser_patterns.proofs.Passed.{reads_more}
use Rattle.ac_parser_patterns.proofs.binders.type_behind.Goals as goal

pub returns-in_err-behind : goal.returns-in_err-behind
returns-in_err-behind c =
    let p = err_from_is_err_and c.from_residual.result c.from_residual.ensures.1 in
    rw (p.1, p.2) (on_syntax_more _ no_symbol c.in_err-behind.ensures)

pub returns : goal.returns
returns c =
    reads_more type_tree_of IsLastType (Behind c.args.symbol IsLastType) c.in_ok-behind.behind.now c.args.signs.now c.last_type.result c.last_type.ensures (omega (arith, c.in_ok-behind.ensures.shorter)) (λ x s o. behind c.in_ok-behind.ensures.found o) (behind_none c.in_ok-behind.ensures.found)
