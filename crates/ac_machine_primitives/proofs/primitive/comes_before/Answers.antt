use Rattle.std.proofs.Common.{refl, arith}
use Rattle.std.proofs.lemmas.Cmp.{same_from_slice_cmp_tested}
use Rattle.std.proofs.lemmas.Bool.Decides.{nat_tests}
use Rattle.std.specs.Ordering.{nat_cmp, is_lt}
use Rattle.ac_code.specs.Constants.{comes_before}
use Rattle.ac_machine_primitives.proofs.primitive.comes_before.Goals as goal

pub returns : goal.returns
returns c = same_from_slice_cmp_tested nat_cmp is_lt comes_before refl (λ _ _. refl) (λ _ _. refl) (λ x y xs ys o h. grind (arith, nat_tests)) c.args.first.now c.args.second.now c.lt.result c.lt.ensures
