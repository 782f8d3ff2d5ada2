use Rattle.std.proofs.Common.{sym, ap, ap₂, ◌∙◌}
use Rattle.ac_types.specs.declared.ty.Ty.TheVariants as ty
use Rattle.ac_check_views.specs.Sites.{ends_of}
use Rattle.ac_check_views.proofs.ReadAs.{read_as}
use Rattle.ac_check_views.proofs.TopLaws.{no_function}
use Rattle.ac_check_views.proofs.types.ends.Goals as goal

pub returns-in-Fun : goal.returns-in-Fun
returns-in-Fun c = ap ends_of (sym (read_as _ _ _ (c.in-Fun.is ∙ ap₂ ty.Fun (sym c.deref.ensures) (sym c.deref-in-Fun.ensures)) (ty.outs-Fun _ _)))

pub returns-in_default : goal.returns-in_default
returns-in_default c = no_function _ c.in_default.not-Fun
