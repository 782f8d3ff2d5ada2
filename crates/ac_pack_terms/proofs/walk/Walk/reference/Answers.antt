use Rattle.std.proofs.Common.{◌∷◌, [], sym, refl, append-nil}
use Rattle.ac_pack_terms.proofs.WalkLaws.{went}
use Rattle.ac_pack_terms.proofs.walk.Walk.reference.Goals as goal

pub returns : goal.returns
returns c = went tt _ _ (_ ∷ []) (_ ∷ []) [] refl c.in_ok-named_head.ensures c.in_ok-push.ensures.ok (sym (append-nil _))
