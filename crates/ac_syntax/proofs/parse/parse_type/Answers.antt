use Rattle.std.proofs.Common.{ap, ◌∙◌}
use Rattle.ac_syntax.specs.ReadSigns.{read_signs}
use Rattle.ac_syntax.proofs.OnStop.{on_syntax_more, fault_of}
use Rattle.ac_syntax.proofs.LeftOver.{type_number, no_type_there}
use Rattle.ac_syntax.proofs.parse.parse_type.Goals as goal

pub returns-in-Ok-clause-tree : goal.returns-in-Ok-clause-tree
returns-in-Ok-clause-tree c =
    type_number _ _ _ _ (ap read_signs c.as_slice-all.ensures.value ∙ c.in_ok-found.ensures) c.from_number.ensures _ _ c.in_ok-number-in-Ok.ensures.number _ c.in-Ok.ensures.tree

pub returns-clause-none : goal.returns-clause-none
returns-clause-none c =
    fault_of _ _ _ c.fault.ensures (on_syntax_more _ (no_type_there _ _ _ _ (ap read_signs c.as_slice-all.ensures.value ∙ c.in_ok-found.ensures) c.from_number.ensures) c.in-Err.ensures.none)
