use Rattle.ac_syntax.proofs.OnStop.{refused}
use Rattle.ac_syntax.proofs.SigSteps.{unnamed_type, abstract_spec, manifest_spec}
use Rattle.ac_syntax.specs.ReadTrees.{name_of}
use Rattle.ac_syntax.proofs.sigs.type_spec.Goals as goal

pub returns-in_default-clause-none : goal.returns-in_default-clause-none
returns-in_default-clause-none c = refused _ _ c.refused_at.ensures (λ a. unnamed_type a _ (rw c.in_default.is at c.in_ok-name.ensures.found))

pub returns-in_default-after-clause-spec : goal.returns-in_default-after-clause-spec
returns-in_default-after-clause-spec c a =
    abstract_spec a _ _ (name_of c.in-Some.name) (rw c.in-Some.is at c.in_ok-name.ensures.found) c.in_default-after.ensures.found

pub returns-clause-spec : goal.returns-clause-spec
returns-clause-spec c a =
    manifest_spec a _ _ (name_of c.in-Some.name) (rw c.in-Some.is at c.in_ok-name.ensures.found) _ _ _ c.in-Some-after.ensures.found c.in_ok-ty.ensures.tree
