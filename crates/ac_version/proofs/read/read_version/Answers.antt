use Rattle.std.proofs.Common.{◌∷◌, ◌++◌, [], List, map, sym, ap, subst, ◌∙◌}
use Rattle.std.proofs.lemmas.List.{map-append}
use Rattle.ac_types.specs.Sigs.{Atom}
use Rattle.ac_types.specs.ReadTypes.{atom_of}
use Rattle.ac_version.proofs.VersionSteps.{AtomsRead, first_read, first_none, next_read, next_none}
use Rattle.ac_version.proofs.read.read_version.Goals as goal

pub returns-in_default-clause-none : goal.returns-in_default-clause-none
returns-in_default-clause-none c = first_none _ c.in_default.ensures.found

pub loop-behind-init : goal.loop-behind-init
loop-behind-init c =
    let atoms = ap (map atom_of) c.in_ok-push.ensures.ok ∙ map-append atom_of c.new-atoms.result (c.in-Some.first ∷ []) ∙ ap (λ l. map atom_of l ++ atom_of c.in-Some.first ∷ []) c.new-atoms.ensures in
    subst (λ (l : List Atom). AtomsRead c.args.tokens.now l c.in-Some.rest.now) (sym atoms) (first_read _ _ _ c.in-Some.ensures.found)

pub returns-in_default-next_atom-clause-none : goal.returns-in_default-next_atom-clause-none
returns-in_default-next_atom-clause-none c = next_none _ _ _ c.loop-behind.invariant _ c.in-Some-after.ensures.found c.in_default-next_atom.ensures.found

pub loop-behind-preserved : goal.loop-behind-preserved
loop-behind-preserved c =
    let atoms = ap (map atom_of) c.in_ok-push-2.ensures.ok ∙ map-append atom_of c.loop-behind.atoms (c.in-Some-next_atom.atom ∷ []) in
    subst (λ (l : List Atom). AtomsRead c.args.tokens.now l c.in-Some-next_atom.later.now) (sym atoms)
    (next_read _ _ _ c.loop-behind.invariant _ _ _ c.in-Some-after.ensures.found c.in-Some-next_atom.ensures.found)
