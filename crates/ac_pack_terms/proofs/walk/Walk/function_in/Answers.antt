use Rattle.std.proofs.Common.{◌∙◌, ◌∷◌, [], ap}
use Rattle.ac_pack_heads.specs.Outcomes.{walk_end}
use Rattle.ac_pack_terms.proofs.WalkLaws.{went}
use Rattle.ac_pack_terms.proofs.walk.Walk.function_in.Goals as goal

pub returns : goal.returns
returns c =
    let a = c.in_ok-add.ensures in
    went tt _ _ (_ ∷ []) (_ ∷ []) (_ ∷ []) a.site (λ ks. ap (λ t. walk_end t.0 ks) a.text ∙ c.in_ok-short_head.ensures ks) (a.roots ∙ c.in_ok-push.ensures.ok) a.pieces
