use Rattle.std.proofs.Common.{refl}
use Rattle.ac_pack_terms.proofs.WalkLaws.{put}
use Rattle.ac_pack_terms.proofs.walk.Walk.string.Goals as goal

pub returns : goal.returns
returns c = put _ _ _ _ refl refl refl c.string_head.ensures
