use Rattle.std.proofs.Common.{get_or}
use Rattle.ac_pack_values.proofs.WrittenLaws.{all_written}
use Rattle.ac_pack_values.proofs.written.write.Goals as goal

pub returns : goal.returns
returns c = all_written (λ k. get_or c.args.numbers.now k 0) _ _ _ c.walked-written.result c.walked-written.ensures
