use Rattle.std.proofs.Common.{sym, ap, ap₂, ◌∙◌}
use Rattle.std.specs.Prelude.{unwrap_or}
use Rattle.ac_types.specs.declared.ty.Ty.TheVariants as ty
use Rattle.ac_terms.specs.Read.{environment_of}
use Rattle.ac_rules.specs.Views.{unsealed}
use Rattle.ac_check_views.proofs.ReadAs.{read_as}
use Rattle.ac_check_views.proofs.TopLaws.{not_sealed}
use Rattle.ac_check_views.proofs.heads.unsealed.Goals as goal

pub returns-in-Abs : goal.returns-in-Abs
returns-in-Abs c =
    let is = read_as _ _ _ c.in-Abs.is (ty.outs-Abs _ _) in
    ap₂ unwrap_or c.rep.ensures is ∙ ap (unsealed (environment_of c.args.env.now)) (sym is)

pub returns-in_default : goal.returns-in_default
returns-in_default c = not_sealed _ (environment_of c.args.env.now) c.in_default.not-Abs
