use Rattle.std.proofs.Common.{◌∙◌, ◌∷◌, [], ap, sym, append-nil}
use Rattle.ac_pack_heads.specs.Outcomes.{walk_end}
use Rattle.ac_pack_terms.proofs.WalkLaws.{went}
use Rattle.ac_pack_terms.proofs.walk.Walk.few.Goals as goal

pub returns : goal.returns
returns c =
    went tt _ _ (_ ∷ []) [] (_ ∷ []) c.in_ok-add.ensures.site
    (λ ks. ap (λ t. walk_end t.0 ks) c.in_ok-add.ensures.text ∙ c.in_ok-few_head.ensures ks)
    (c.in_ok-add.ensures.roots ∙ sym (append-nil _)) c.in_ok-add.ensures.pieces
