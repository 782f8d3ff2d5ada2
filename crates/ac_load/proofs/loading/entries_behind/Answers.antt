use Rattle.std.proofs.Common.{ap, subst}
use Rattle.ac_types.specs.ReadTypes.{typ_of}
use Rattle.ac_types.specs.declared.text.Text.{Text}
use Rattle.ac_terms.specs.Defs.{Seen, Shelf}
use Rattle.ac_terms.specs.Read.{environment_of, expr_of, bytes_of}
use Rattle.ac_syntax.specs.ReadTrees.{surface_of}
use Rattle.ac_load.specs.inner.Parts.{IsTaken}
use Rattle.ac_load.proofs.loading.entries_behind.Goals as goal

pub returns-in-Ok-clause-taken : goal.returns-in-Ok-clause-taken
returns-in-Ok-clause-taken c =
    let l = c.in-Ok.field-0 in
    let e = expr_of l.main in
    let T = typ_of l.ty in
    (e, T, subst (λ (s : Seen). IsTaken (environment_of c.args.env) s (surface_of c.args.surface.now) (environment_of l.env) e T) (ap (λ (t : Text). Shelf (bytes_of t)) c.in_ok-copy.ensures) c.in-Ok.ensures.taken)
