use Rattle.std.proofs.lemmas.Result.{err_from_is_err_and}
use Rattle.ac_syntax.proofs.OnStop.{on_syntax_more}
use Rattle.ac_parser_patterns.proofs.PatLaws.{pat_of-Nil}
use Rattle.ac_parser_patterns.proofs.PatSteps.{nil_leaf, nil_none}
use Rattle.ac_parser_patterns.proofs.patterns.nil.Goals as goal

pub returns-in_err-rest : goal.returns-in_err-rest
returns-in_err-rest c =
    let p = err_from_is_err_and c.from_residual.result c.from_residual.ensures.1 in
    rw (p.1, p.2) (on_syntax_more _ (nil_none _ _) c.in_err-rest.ensures)

pub returns : goal.returns
returns c = record { found = nil_leaf _ _ _ _ c.in_ok-rest.ensures.found (pat_of-Nil c.args.at); shorter = c.in_ok-rest.ensures.shorter }
