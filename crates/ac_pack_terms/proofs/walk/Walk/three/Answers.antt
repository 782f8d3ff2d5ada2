use Rattle.std.proofs.Common.{◌∙◌, ◌∷◌, [], ap, sym, append-nil}
use Rattle.ac_pack_heads.specs.Outcomes.{walk_end}
use Rattle.ac_pack_terms.proofs.WalkLaws.{went, added_thrice}
use Rattle.ac_pack_terms.proofs.walk.Walk.three.Goals as goal

pub returns : goal.returns
returns c =
    let a = c.in_ok-add.ensures in
    let b = c.in_ok-add-2.ensures in
    let d = c.in_ok-add-3.ensures in
    went tt _ _ (_ ∷ []) [] (_ ∷ _ ∷ _ ∷ []) (d.site ∙ b.site ∙ a.site) (λ ks. ap (λ t. walk_end t.0 ks) (d.text ∙ b.text ∙ a.text) ∙ c.in_ok-write_head.ensures ks) (d.roots ∙ b.roots ∙ a.roots ∙ sym (append-nil _))
    (added_thrice _ _ _ _ _ _ _ a.pieces b.pieces d.pieces)
