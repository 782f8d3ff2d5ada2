use Rattle.std.proofs.Common.{◌≡◌, arith, length}
use Rattle.ac_terms.specs.Read.{field_of}
use Rattle.ac_terms_renumber.specs.Numbers.{number_for}
use Rattle.ac_types.proofs.Loops.{built}
use Rattle.ac_terms_renumber.proofs.MadeLaws.{field_made, all_fields}
use Rattle.ac_terms_renumber.proofs.moved.fields.Goals as goal

pub loop-one-preserved : goal.loop-one-preserved
loop-one-preserved c =
    built field_of (field_made (number_for c.args.numbers.now)) _ _ _ _ _ _ c.loop-one.invariant c.loop-one-test.true c.one-item.is c.in_ok-push.ensures.ok c.in_ok-made.ensures

pub returns : goal.returns
returns c = let e : c.loop-one.one-index ≡ length c.args.all.now = omega arith in all_fields (number_for c.args.numbers.now) _ _ _ e c.loop-one.invariant
