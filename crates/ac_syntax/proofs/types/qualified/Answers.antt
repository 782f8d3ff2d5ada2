use Rattle.std.proofs.Common.{◌∙◌, ap}
use Rattle.ac_types.specs.Types.{Bytes}
use Rattle.ac_syntax.specs.Trees.{TyOf}
use Rattle.ac_syntax.specs.ReadTrees.{name_of}
use Rattle.ac_syntax.proofs.TypeLaws.{type_of-Of}
use Rattle.ac_syntax.proofs.TypeSteps.{undotted_none, unnamed_none, qualified_leaf}
use Rattle.ac_syntax.proofs.types.qualified.Goals as goal

pub returns-in_default-clause-found : goal.returns-in_default-clause-found
returns-in_default-clause-found c = undotted_none _ _ _ c.in_default.ensures.found

pub returns-in_default-2-clause-found : goal.returns-in_default-2-clause-found
returns-in_default-2-clause-found c = unnamed_none _ _ _ _ c.in-Some.ensures.found (rw c.in_default-2.is at c.in_ok-ty.ensures.found)

pub returns-clause-found : goal.returns-clause-found
returns-clause-found c =
    qualified_leaf _ _ _ _ _ (name_of c.in-Some-2.ty) _ c.in-Some.ensures.found (rw c.in-Some-2.is at c.in_ok-ty.ensures.found)
    (type_of-Of c.args.at _ c.in-Some-2.ty ∙ ap (λ (w : Bytes). TyOf c.args.at (record { at = c.args.at; word = w }) (name_of c.in-Some-2.ty)) c.in_ok-word.ensures)
