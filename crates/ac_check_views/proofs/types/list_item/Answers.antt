use Rattle.std.proofs.Common.{sym, ap, ◌∙◌}
use Rattle.ac_types.specs.declared.ty.Ty.TheVariants as ty
use Rattle.ac_rules.specs.Typing.{list_item}
use Rattle.ac_check_views.proofs.ReadAs.{read_as}
use Rattle.ac_check_views.proofs.TopLaws.{no_list}
use Rattle.ac_check_views.proofs.types.list_item.Goals as goal

pub returns-in-List : goal.returns-in-List
returns-in-List c = ap list_item (sym (read_as _ _ _ (c.in-List.is ∙ ap ty.List (sym c.deref.ensures)) (ty.outs-List _)))

pub returns-in_default : goal.returns-in_default
returns-in_default c = no_list _ c.in_default.not-List
