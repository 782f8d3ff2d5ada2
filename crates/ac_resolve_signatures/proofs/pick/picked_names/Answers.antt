use Rattle.std.proofs.Common.{◌≡◌, ◌∙◌, ◌++◌, ap, refl, arith, length, map}
use Rattle.std.specs.Prelude.{flat_map}
use Rattle.ac_resolve_signatures.specs.Reads.{named}
use Rattle.ac_types.proofs.Loops.{lengthened, lengthened_all}
use Rattle.ac_resolve_signatures.proofs.pick.picked_names.Goals as goal

pub loop-item-preserved : goal.loop-item-preserved
loop-item-preserved g c =
    lengthened (λ xs. flat_map g.P.Pick.picks (map g.P.Pick.read xs)) (λ x. g.P.Pick.picks (g.P.Pick.read x)) (λ x xs. refl) _ (map named c.loop-item.names.items) _ _ _ _ c.loop-item-test.true c.item-item.is c.loop-item.invariant
    (c.in_ok-add.ensures ∙ ap (λ ns. map named c.loop-item.names.items ++ ns) c.pick.ensures)

pub returns : goal.returns
returns g c =
    let e : c.loop-item.item-index ≡ length c.args.items.now = omega arith in
    lengthened_all (λ xs. flat_map g.P.Pick.picks (map g.P.Pick.read xs)) _ (map named c.loop-item.names.items) _ _ refl e c.loop-item.invariant
