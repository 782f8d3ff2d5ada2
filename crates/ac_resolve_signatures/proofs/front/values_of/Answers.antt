use Rattle.std.proofs.Common.{◌≡◌, ap, true, arith, length, map}
use Rattle.std.specs.Prelude.{is_some, if◌then◌else◌}
use Rattle.ac_types.specs.Sigs.{named_type}
use Rattle.ac_types.specs.ReadTypes.{typed_of}
use Rattle.ac_resolve_signatures.specs.Reads.{contains_name}
use Rattle.ac_resolve_signatures.proofs.Lookups.{nothing_has, next_value, last_value}
use Rattle.ac_resolve_signatures.proofs.front.values_of.Goals as goal

pub loop-val-init : goal.loop-val-init
loop-val-init c = λ x. ap (λ b. if b then true else is_some (named_type x (map typed_of c.args.vals.now))) (nothing_has c.new-words.result c.new-words.ensures.empty x)

pub loop-val-preserved : goal.loop-val-preserved
loop-val-preserved c = λ x. next_value x (contains_name c.loop-val.words) _ _ _ _ _ c.loop-val-test.true c.val-item.is (c.loop-val.invariant x) c.in_ok-insert_word.ensures

pub returns : goal.returns
returns c = let e : c.loop-val.val-index ≡ length c.args.vals.now = omega arith in λ x. last_value x (contains_name c.loop-val.words x) _ _ _ e (c.loop-val.invariant x)
