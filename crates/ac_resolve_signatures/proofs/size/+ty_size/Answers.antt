use Rattle.std.proofs.Common.{◌≡◌, ◌∙◌, ap, refl, arith, length, map, List}
use Rattle.ac_types.specs.declared.ty.Ty.{Ty}
use Rattle.ac_types.specs.ReadTypes.{typ_of}
use Rattle.ac_resolve_signatures.specs.declared.size.Size.{Size}
use Rattle.ac_resolve_signatures.specs.KnownScopes.{size_of, side_by_side}
use Rattle.ac_resolve_signatures.specs.inner.TypeSizes.{sizes_after}
use Rattle.ac_types.proofs.Loops.{next_fold, last_fold}
use Rattle.ac_resolve_signatures.proofs.size.+ty_size.Goals as goal

abbrev of_all : Size → List Ty → Size
of_all s tys = sizes_after s (map typ_of tys)

pub sizes-loop-ty-preserved : goal.sizes-loop-ty-preserved
sizes-loop-ty-preserved t c =
    next_fold of_all (λ s ty. side_by_side s (size_of (typ_of ty))) (λ s ty tys. refl) _ c.loop-ty.found c.beside-found.result _ _ _ c.loop-ty-test.true c.ty-item.is c.loop-ty.invariant (c.beside-found.ensures ∙ ap (side_by_side c.loop-ty.found) c.ty_size-here.ensures)

pub sizes-returns : goal.sizes-returns
sizes-returns t c = let e : c.loop-ty.ty-index ≡ length c.args.tys.now = omega arith in last_fold of_all _ c.loop-ty.found _ _ e c.loop-ty.invariant
