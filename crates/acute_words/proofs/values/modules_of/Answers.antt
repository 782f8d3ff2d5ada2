use Rattle.std.proofs.Common.{arith}
use Rattle.acute_words.proofs.Numbers.{read_most}
use Rattle.acute_words.proofs.values.modules_of.Goals as goal

pub overflow_cast-result : goal.overflow_cast-result
overflow_cast-result c = omega (arith, read_most c.args.text.now c.in-Some.number _ _ c.in-Some.ensures)
