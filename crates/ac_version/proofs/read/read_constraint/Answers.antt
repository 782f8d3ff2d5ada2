use Rattle.std.proofs.Common.{◌∷◌, ◌++◌, [], List, map, sym, ap, subst, ◌∙◌, arith}
use Rattle.std.proofs.lemmas.List.{map-append, length-map}
use Rattle.ac_types.specs.Sigs.{Range}
use Rattle.ac_types.specs.ReadTypes.{range_of}
use Rattle.ac_version.proofs.RangeSteps.{RangesRead, star_constraint, unranged_none, first_ranges, next_ranges, constraint, next_none, many_none}
use Rattle.ac_version.proofs.read.read_constraint.Goals as goal

pub returns-then-is_star-clause-constraint : goal.returns-then-is_star-clause-constraint
returns-then-is_star-clause-constraint c = star_constraint _ _ c.if-is_star.ensures (ap (map range_of) c.new-atoms.ensures)

pub returns-in_default-clause-none : goal.returns-in_default-clause-none
returns-in_default-clause-none c = unranged_none _ c.if-is_star.ensures c.in_default.ensures.found

pub loop-star-init : goal.loop-star-init
loop-star-init c =
    let atoms = ap (map range_of) c.in_ok-push.ensures.ok ∙ map-append range_of c.new-atoms.result (c.in-Some.first ∷ []) ∙ ap (λ l. map range_of l ++ range_of c.in-Some.first ∷ []) c.new-atoms.ensures in
    subst (λ (l : List Range). RangesRead c.args.tokens.now l c.in-Some.rest.now) (sym atoms) (first_ranges _ _ _ c.in-Some.ensures.found)

pub returns-then-len-gt-MOST_VERSION_ATOMS-clause-none : goal.returns-then-len-gt-MOST_VERSION_ATOMS-clause-none
returns-then-len-gt-MOST_VERSION_ATOMS-clause-none c = many_none _ _ _ c.loop-star.invariant _ c.if-is_star.ensures c.in-Some-end.ensures (omega (arith, length-map c.loop-star.atoms range_of))

pub returns-in-Some-end-clause-constraint : goal.returns-in-Some-end-clause-constraint
returns-in-Some-end-clause-constraint c = constraint _ _ _ c.loop-star.invariant _ c.in-Some-end.ensures (omega (arith, length-map c.loop-star.atoms range_of))

pub returns-in_default-next_range-clause-none : goal.returns-in_default-next_range-clause-none
returns-in_default-next_range-clause-none c =
    next_none _ _ _ c.loop-star.invariant _ c.if-is_star.ensures c.in-Some-after.ensures.found c.in_default-end.ensures c.in_default-next_range.ensures.found

pub loop-star-preserved : goal.loop-star-preserved
loop-star-preserved c =
    let atoms = ap (map range_of) c.in_ok-push-2.ensures.ok ∙ map-append range_of c.loop-star.atoms (c.in-Some-next_range.range ∷ []) in
    subst (λ (l : List Range). RangesRead c.args.tokens.now l c.in-Some-next_range.later.now) (sym atoms)
    (next_ranges _ _ _ c.loop-star.invariant _ _ _ c.in-Some-after.ensures.found c.in-Some-next_range.ensures.found)
