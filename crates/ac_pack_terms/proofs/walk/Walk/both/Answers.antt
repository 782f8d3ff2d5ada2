use Rattle.std.proofs.Common.{◌∙◌, ◌∷◌, [], ap, sym, append-nil}
use Rattle.ac_pack_heads.specs.Outcomes.{walk_end}
use Rattle.ac_pack_terms.proofs.WalkLaws.{went, added_twice}
use Rattle.ac_pack_terms.proofs.walk.Walk.both.Goals as goal

pub returns : goal.returns
returns c =
    let a = c.in_ok-add.ensures in
    let b = c.in_ok-add-2.ensures in
    went tt _ _ [] [] (_ ∷ _ ∷ []) (b.site ∙ a.site) (λ ks. ap (λ t. walk_end t.0 ks) (b.text ∙ a.text)) (b.roots ∙ a.roots ∙ sym (append-nil _))
    (added_twice _ _ _ _ _ a.pieces b.pieces)
