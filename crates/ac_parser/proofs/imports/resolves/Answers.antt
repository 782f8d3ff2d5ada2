use Rattle.std.proofs.Common.{◌∷◌, ◌++◌, [], List, map, sym, ap, subst, ◌∙◌, arith}
use Rattle.std.proofs.lemmas.List.{map-append}
use Rattle.ac_types.specs.Sigs.{Resolve}
use Rattle.ac_types.specs.ReadTypes.{resolve_of}
use Rattle.ac_syntax.specs.ReadSigns.{read_signs}
use Rattle.ac_syntax.proofs.OnStop.{refused}
use Rattle.ac_parser.proofs.ImportSteps.{PlacesSoFar, first_place, no_first_place, next_place, no_place_behind, places_read}
use Rattle.ac_parser.proofs.imports.resolves.Goals as goal

pub returns-in_default : goal.returns-in_default
returns-in_default c = refused _ _ c.refused_at.ensures (no_first_place _ (rw c.in_default.is at c.in_ok-first.ensures.found))

pub loop-behind-init : goal.loop-behind-init
loop-behind-init c =
    let places = ap (map resolve_of) c.in_ok-push.ensures.ok ∙ map-append resolve_of c.new-found.result (c.in-Some.first ∷ []) ∙ ap (λ l. map resolve_of l ++ resolve_of c.in-Some.first ∷ []) c.new-found.ensures in
    record {
      so_far = subst (λ (l : List Resolve). PlacesSoFar (read_signs c.args.signs.now) l (read_signs c.in-Some.rest.now)) (sym places) (first_place _ _ _ (rw c.in-Some.is at c.in_ok-first.ensures.found));
      shorter = rw c.in-Some.is at c.in_ok-first.ensures.shorter;
    }

pub returns-in_default-2 : goal.returns-in_default-2
returns-in_default-2 c =
    refused _ _ c.refused_at-in_default-2.ensures (no_place_behind _ _ _ c.loop-behind.invariant.so_far _ c.in-Some-after.ensures.found (rw c.in_default-2.is at c.in_ok-place.ensures.found))

pub loop-behind-preserved : goal.loop-behind-preserved
loop-behind-preserved c =
    let places = ap (map resolve_of) c.in_ok-push-2.ensures.ok ∙ map-append resolve_of c.loop-behind.found (c.in-Some-2.place ∷ []) in
    record {
      so_far = subst (λ (l : List Resolve). PlacesSoFar (read_signs c.args.signs.now) l (read_signs c.in-Some-2.later.now)) (sym places)
          (next_place _ _ _ c.loop-behind.invariant.so_far _ c.in-Some-after.ensures.found _ _ (rw c.in-Some-2.is at c.in_ok-place.ensures.found));
      shorter = omega (arith, c.loop-behind.invariant.shorter, c.in-Some-after.ensures.shorter, rw c.in-Some-2.is at c.in_ok-place.ensures.shorter);
    }

pub returns : goal.returns
returns c = record {
  found = places_read _ _ _ c.loop-behind.invariant.so_far c.in_default-after.ensures.found;
  shorter = c.loop-behind.invariant.shorter;
}
