use Rattle.std.proofs.Common.{subst}
use Rattle.std.proofs.lemmas.Result.{err_from_is_err_and, IfOk-weaker, IfErr-weaker}
use Rattle.ac_types.specs.Types.{Bytes}
use Rattle.ac_terms.specs.Defs.{Shelf}
use Rattle.ac_terms.specs.Read.{environment_of, bytes_of}
use Rattle.ac_syntax.specs.Programs.{IsModule}
use Rattle.ac_syntax.specs.ReadTrees.{surface_of}
use Rattle.ac_syntax.specs.Texts.{HasTree, IsTextFault}
use Rattle.ac_load.specs.Loading.{shelved}
use Rattle.ac_load.proofs.ShelfLaws.{text_refused, tree_refused, module_taken}
use Rattle.ac_load.proofs.loading.module_behind.Goals as goal

pub returns-in_err-surface-clause-refused : goal.returns-in_err-surface-clause-refused
returns-in_err-surface-clause-refused c =
    let p = err_from_is_err_and c.from_residual.result c.from_residual.ensures.1 in
    rw (p.1, p.2) (text_refused IsModule (environment_of c.args.env) (Shelf (bytes_of c.args.entry.now.uri)) (bytes_of c.args.entry.now.text) _
    (subst (λ (t : Bytes). IsTextFault IsModule t c.in_err-surface.field-0.0) c.as_slice.ensures c.in_err-surface.ensures.fault))

pub returns-clause-taken : goal.returns-clause-taken
returns-clause-taken c =
    IfOk-weaker c.entries_behind-found.result _ _
    (λ e t. module_taken (environment_of c.args.env) (shelved c.args.entry.now) (surface_of c.in_ok-surface.surface) (environment_of e) t.0 t.1 (subst (λ (t : Bytes). HasTree IsModule t (surface_of c.in_ok-surface.surface)) c.as_slice.ensures c.in_ok-surface.ensures.tree) t.2)
    c.entries_behind-found.ensures.taken

pub returns-clause-refused : goal.returns-clause-refused
returns-clause-refused c =
    IfErr-weaker c.entries_behind-found.result _ _
    (λ kind r. tree_refused IsModule (environment_of c.args.env) (Shelf (bytes_of c.args.entry.now.uri)) (bytes_of c.args.entry.now.text) (surface_of c.in_ok-surface.surface) kind (subst (λ (t : Bytes). HasTree IsModule t (surface_of c.in_ok-surface.surface)) c.as_slice.ensures c.in_ok-surface.ensures.tree) r)
    c.entries_behind-found.ensures.refused
