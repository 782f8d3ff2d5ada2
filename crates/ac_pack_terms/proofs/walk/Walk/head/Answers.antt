use Rattle.std.proofs.Common.{refl}
use Rattle.ac_pack_terms.proofs.WalkLaws.{put}
use Rattle.ac_pack_terms.proofs.walk.Walk.head.Goals as goal

pub returns : goal.returns
returns c = put _ _ _ _ refl refl refl c.write_head.ensures
