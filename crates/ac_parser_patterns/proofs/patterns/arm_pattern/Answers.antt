use Rattle.std.proofs.Common.{sym, subst, arith}
use Rattle.std.proofs.lemmas.Result.{err_from_is_err_and}
use Rattle.ac_syntax.specs.Patterns.{IsPattern}
use Rattle.ac_syntax.specs.ReadSigns.{read_signs}
use Rattle.ac_syntax.specs.ReadTrees.{pat_of}
use Rattle.ac_syntax.specs.declared.sign.Symbol.TheVariants.{Arrow}
use Rattle.ac_syntax.specs.declared.surface.SPat.{SPat}
use Rattle.ac_syntax.proofs.OnStop.{on_syntax_more}
use Rattle.ac_parser_patterns.specs.Pieces.{Before}
use Rattle.ac_parser_patterns.proofs.Readers.{before, before_none, symbol_none}
use Rattle.ac_parser_patterns.proofs.PatSteps.{one_pattern}
use Rattle.ac_parser_patterns.proofs.Passed.{found_more}
use Rattle.ac_parser_patterns.proofs.patterns.arm_pattern.Goals as goal

pub returns-in_err-pat : goal.returns-in_err-pat
returns-in_err-pat c =
    let p = err_from_is_err_and c.from_residual.result c.from_residual.ensures.1 in
    rw (p.1, p.2) (on_syntax_more _ (before_none {R = IsPattern}) c.in_err-pat.ensures)

pub returns : goal.returns
returns c =
    found_more c.followed.result c.followed.ensures
    (λ x o. record {
      found = subst (λ (p : SPat). Before Arrow IsPattern (read_signs c.args.signs.now) (pat_of p) (read_signs x.1.now)) (sym o.0) (before c.in_ok-pat.ensures.found o.1.found);
      shorter = omega (arith, c.in_ok-pat.ensures.shorter, o.1.shorter);
    }) (symbol_none one_pattern c.in_ok-pat.ensures.found)
