use Rattle.ac_pack_heads.proofs.HeadLaws.{puts_before}
use Rattle.ac_pack_heads.proofs.heads.string_head.Goals as goal

pub returns : goal.returns
returns c = puts_before _ _ _ _ _ _ _ c.in_ok-extend.ensures.ok c.plain_string.ensures
