use Rattle.std.proofs.Common.{[], sym, refl, append-nil}
use Rattle.ac_pack_terms.proofs.WalkLaws.{went}
use Rattle.ac_pack_terms.proofs.walk.Walk.nothing.Goals as goal

pub returns : goal.returns
returns c = went tt _ _ [] [] [] refl (λ ks. refl) (sym (append-nil _)) (sym (append-nil _))
