use Rattle.std.proofs.Common.{Some, map, sym, ap, subst}
use Rattle.ac_syntax.specs.Trees.{Tree}
use Rattle.ac_syntax.specs.Programs.{IsProgram}
use Rattle.ac_syntax.specs.ReadSigns.{read_signs}
use Rattle.ac_syntax.specs.ReadTrees.{def_tree_of, tree_of}
use Rattle.std.proofs.lemmas.Result.{err_from_is_err_and}
use Rattle.ac_syntax.proofs.OnStop.{on_syntax_more}
use Rattle.ac_parser.proofs.ProgramSteps.{no_expression, more_behind, program_read}
use Rattle.ac_parser.proofs.programs.program.Goals as goal

pub returns-in_err-expr : goal.returns-in_err-expr
returns-in_err-expr c =
    let p = err_from_is_err_and c.from_residual-in_err-expr.result c.from_residual-in_err-expr.ensures.1 in
    rw (p.1, p.2) (on_syntax_more _ (no_expression _ _ _ c.in_ok-defs.ensures.defs c.in_ok-defs.ensures.end) c.in_err-expr.ensures)

pub returns-in_err-expr-2 : goal.returns-in_err-expr-2
returns-in_err-expr-2 c =
    let p = err_from_is_err_and c.from_residual-in_err-expr-2.result c.from_residual-in_err-expr-2.ensures.1 in
    rw (p.1, p.2) (on_syntax_more _ (more_behind _ _ _ c.in_ok-defs.ensures.defs c.in_ok-defs.ensures.end _ _ c.in_ok-expr.ensures.found) c.in_err-expr-2.ensures)

pub returns : goal.returns
returns c =
    subst (λ (e : Tree). IsProgram (read_signs c.args.signs.now) (record { defs = map def_tree_of c.in_ok-defs.defs; expr = Some e })) (ap tree_of (sym c.in_ok-expr-2.ensures.0))
    (program_read _ _ _ c.in_ok-defs.ensures.defs _ _ c.in_ok-expr.ensures.found c.in_ok-expr-2.ensures.1)
