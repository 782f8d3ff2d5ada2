use Rattle.std.proofs.Common.{◌∙◌, ap}
use Rattle.ac_pack_terms.proofs.WalkLaws.{went_before}
use Rattle.ac_pack_terms.proofs.walk.Walk.before.Goals as goal

pub returns : goal.returns
returns c =
    let a = c.in_ok-add.ensures in
    λ h hs e. went_before tt _ _ _ _ h hs e a.site (ap (λ t. t.0) a.text ∙ c.in_ok-extend.ensures.ok) a.roots a.pieces
