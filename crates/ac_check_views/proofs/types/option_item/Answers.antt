use Rattle.std.proofs.Common.{sym, ap, ◌∙◌}
use Rattle.ac_types.specs.declared.ty.Ty.TheVariants as ty
use Rattle.ac_rules.specs.Typing.{option_item}
use Rattle.ac_check_views.proofs.ReadAs.{read_as}
use Rattle.ac_check_views.proofs.TopLaws.{no_option}
use Rattle.ac_check_views.proofs.types.option_item.Goals as goal

pub returns-in-Opt : goal.returns-in-Opt
returns-in-Opt c = ap option_item (sym (read_as _ _ _ (c.in-Opt.is ∙ ap ty.Opt (sym c.deref.ensures)) (ty.outs-Opt _)))

pub returns-in_default : goal.returns-in_default
returns-in_default c = no_option _ c.in_default.not-Opt
