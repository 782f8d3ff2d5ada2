use Rattle.std.proofs.Common.{sym, ap}
use Rattle.ac_types.specs.declared.ty.Ty.TheVariants as ty
use Rattle.ac_rules.specs.Typing.{tuple_parts}
use Rattle.ac_check_views.proofs.ReadAs.{read_as}
use Rattle.ac_check_views.proofs.TopLaws.{no_tuple}
use Rattle.ac_check_views.proofs.types.tuple_parts.Goals as goal

pub returns-in-Tuple : goal.returns-in-Tuple
returns-in-Tuple c = ap tuple_parts (sym (read_as _ _ _ c.in-Tuple.is (ty.outs-Tuple _)))

pub returns-in_default : goal.returns-in_default
returns-in_default c = no_tuple _ c.in_default.not-Tuple
