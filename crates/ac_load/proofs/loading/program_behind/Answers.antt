use Rattle.std.proofs.lemmas.Result.{err_from_is_err_and, IfOk-weaker, IfErr-weaker}
use Rattle.ac_types.specs.ReadTypes.{typ_of}
use Rattle.ac_terms.specs.Defs.{Own'}
use Rattle.ac_terms.specs.Read.{environment_of, expr_of}
use Rattle.ac_syntax.specs.Programs.{IsProgram}
use Rattle.ac_syntax.specs.ReadTrees.{surface_of}
use Rattle.ac_load.proofs.ShelfLaws.{text_refused, tree_refused, program_taken}
use Rattle.ac_load.proofs.loading.program_behind.Goals as goal

pub returns-in_err-surface-clause-refused : goal.returns-in_err-surface-clause-refused
returns-in_err-surface-clause-refused c =
    let p = err_from_is_err_and c.from_residual.result c.from_residual.ensures.1 in
    rw (p.1, p.2) (text_refused IsProgram (environment_of c.args.env) Own' c.args.text.now _ c.in_err-surface.ensures.fault)

pub returns-clause-taken : goal.returns-clause-taken
returns-clause-taken c =
    IfOk-weaker c.part-found.result _ _
    (λ l t. program_taken (environment_of c.args.env) c.args.text.now (surface_of c.in_ok-surface.surface) (environment_of l.env) (expr_of l.main) (typ_of l.ty) c.in_ok-surface.ensures.tree t)
    c.part-found.ensures.taken

pub returns-clause-refused : goal.returns-clause-refused
returns-clause-refused c =
    IfErr-weaker c.part-found.result _ _
    (λ kind r. tree_refused IsProgram (environment_of c.args.env) Own' c.args.text.now (surface_of c.in_ok-surface.surface) kind c.in_ok-surface.ensures.tree r)
    c.part-found.ensures.refused
