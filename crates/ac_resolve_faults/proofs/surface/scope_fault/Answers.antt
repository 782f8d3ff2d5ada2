use Rattle.std.proofs.Common.{◌∙◌, ap}
use Rattle.ac_terms.specs.Read.{environment_of}
use Rattle.ac_syntax.specs.ReadTrees.{surface_of}
use Rattle.ac_resolve_faults.specs.inner.SurfaceFlaws.{first_fault}
use Rattle.ac_resolve_faults.proofs.SurfacesAre.{surface-is}
use Rattle.ac_resolve_faults.proofs.surface.scope_fault.Goals as goal

pub returns : goal.returns
returns c = λ digest. c.first.ensures ∙ ap first_fault c.in_ok-found.ensures ∙ surface-is digest (environment_of c.args.env.now) (surface_of c.args.surface.now)
