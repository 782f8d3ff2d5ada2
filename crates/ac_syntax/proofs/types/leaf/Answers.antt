use Rattle.std.proofs.Common.{◌∷◌, ◌∙◌, ap}
use Rattle.ac_syntax.specs.Trees.{TyLocal}
use Rattle.ac_syntax.specs.ReadSigns.{read_kind, read_signs}
use Rattle.ac_syntax.specs.declared.sign.SignKind.{SignKind}
use Rattle.ac_syntax.proofs.TypeLaws.{type_of-Local, type_of-kind}
use Rattle.ac_syntax.proofs.TypeSteps.{local_leaf, base_leaf, no_base_leaf}
use Rattle.ac_syntax.proofs.types.leaf.Goals as goal

pub returns-in_ok-copy-in-Lower-clause-found : goal.returns-in_ok-copy-in-Lower-clause-found
returns-in_ok-copy-in-Lower-clause-found c =
    local_leaf c.in-Some.first.at c.in-Lower.word.now _ _ _
    (c.in-Some.ensures.first ∙ ap (λ (k : SignKind). read_kind c.in-Some.first.at k ∷ read_signs c.in-Some.rest.now) c.in-Lower.is)
    (type_of-Local c.in-Some.first.at _ ∙ ap (TyLocal c.in-Some.first.at) c.in_ok-copy-in-Lower.ensures)

pub returns-in-Some-base_kind-clause-found : goal.returns-in-Some-base_kind-clause-found
returns-in-Some-base_kind-clause-found c =
    base_leaf c.in-Some.first.at c.in-Fixed.symbol _ _ _ _
    (c.in-Some.ensures.first ∙ ap (λ (k : SignKind). read_kind c.in-Some.first.at k ∷ read_signs c.in-Some.rest.now) c.in-Fixed.is)
    (c.in-Some-base_kind.ensures c.in-Some.first.at) (type_of-kind c.in-Some.first.at c.in-Some-base_kind.kind)

pub returns-in-None-clause-found : goal.returns-in-None-clause-found
returns-in-None-clause-found c =
    no_base_leaf c.in-Some.first.at c.in-Fixed.symbol _ _
    (c.in-Some.ensures.first ∙ ap (λ (k : SignKind). read_kind c.in-Some.first.at k ∷ read_signs c.in-Some.rest.now) c.in-Fixed.is)
    (c.in-None.ensures c.in-Some.first.at)
