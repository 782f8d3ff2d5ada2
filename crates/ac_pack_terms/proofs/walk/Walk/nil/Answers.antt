use Rattle.std.proofs.Common.{refl}
use Rattle.ac_pack_terms.proofs.WalkLaws.{put}
use Rattle.ac_pack_terms.proofs.walk.Walk.nil.Goals as goal

pub returns : goal.returns
returns c = put _ _ _ _ refl refl refl c.count_head.ensures
