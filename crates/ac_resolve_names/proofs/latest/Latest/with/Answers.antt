use Rattle.std.proofs.Common.{◌∙◌, ap, [], ◌∷◌, ◌++◌}
use Rattle.ac_resolve_names.specs.inner.Places.{backwards}
use Rattle.ac_resolve_names.proofs.Places.{more_places, backwards-push}
use Rattle.ac_resolve_names.proofs.latest.Latest.with.Goals as goal

pub invariant_of-result : goal.invariant_of-result
invariant_of-result g c =
    more_places c.self.inside.places c.insert.new.self c.in_ok-key.key c.self.inside.items c.push.new.self c.args.name.now c.args.means c.len-place.result c.self.invariant
    (c.in_ok-key.ensures.items ∙ c.as_slice.ensures ∙ c.text.ensures.bytes) c.len-place.ensures
    (c.in_ok-push.ensures.ok ∙ ap (λ w. c.self.inside.items ++ (w, c.args.means) ∷ []) c.in_ok-copy.ensures) c.in_ok-insert.ensures.updates

pub returns : goal.returns
returns g c =
    ap backwards (c.in_ok-push.ensures.ok ∙ ap (λ w. c.self.inside.items ++ (w, c.args.means) ∷ []) c.in_ok-copy.ensures)
    ∙ backwards-push c.self.inside.items (c.args.name.now, c.args.means) ∙ ap (λ l. (c.args.name.now, c.args.means) ∷ l) c.self.view_is
