use Rattle.std.proofs.Common.{ap, arith}
use Rattle.std.proofs.lemmas.Result.{err_from_is_err_and}
use Rattle.ac_syntax.specs.Trees.{pat_height}
use Rattle.ac_parser_patterns.proofs.PatLaws.{pat_of-Tuple}
use Rattle.ac_parser_patterns.proofs.patterns.closed.Goals as goal

pub returns-in_err-rest : goal.returns-in_err-rest
returns-in_err-rest c =
    let p = err_from_is_err_and c.from_residual.result c.from_residual.ensures.1 in
    rw (p.1, p.2) c.in_err-rest.ensures

pub returns : goal.returns
returns c =
    let is = pat_of-Tuple c.args.at c.args.parts in
    record {
      tree = (is, c.in_ok-rest.ensures.found);
      height = omega (arith, c.requires.highest, ap pat_height is);
      shorter = c.in_ok-rest.ensures.shorter;
    }
