use Rattle.std.proofs.Common.{◌∙◌, ap, sym}
use Rattle.std.specs.Prelude.{option_map}
use Rattle.std.specs.Option.{option_copied}
use Rattle.ac_resolve_names.proofs.Places.{none_beside, found_meaning}
use Rattle.ac_resolve_names.proofs.latest.Latest.find.Goals as goal

pub returns-in_err-place : goal.returns-in_err-place
returns-in_err-place g c = ap option_copied c.from_residual.ensures ∙ sym (none_beside c.args.name.now c.args.self.now (sym c.place.ensures ∙ c.in_err-place.was))

pub returns-in_err-means : goal.returns-in_err-means
returns-in_err-means g c =
    ap option_copied c.from_residual-in_err-means.ensures
    ∙ sym (
    found_meaning c.self.inside.items c.args.self.now c.args.name.now c.in_ok-place.place (option_copied c.get.result) c.self.view_is (sym c.place.ensures ∙ c.in_ok-place.was) c.get.ensures.value
    ∙ ap (λ r. option_map (λ e. e.1) (option_copied r)) c.in_err-means.was
    )

pub returns : goal.returns
returns g c =
    sym (
    found_meaning c.self.inside.items c.args.self.now c.args.name.now c.in_ok-place.place (option_copied c.get.result) c.self.view_is (sym c.place.ensures ∙ c.in_ok-place.was) c.get.ensures.value
    ∙ ap (λ r. option_map (λ e. e.1) (option_copied r)) c.in_ok-means.was
    )
