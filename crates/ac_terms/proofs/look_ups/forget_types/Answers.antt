use Rattle.std.proofs.Common.{ap, sym, ◌∙◌, ◌++◌, arith}
use Rattle.ac_types.specs.Types.{Bytes, same_bytes}
use Rattle.ac_index.specs.Noted.{first_under, forgetting}
use Rattle.ac_terms.proofs.LookUpLaws.{all_forgotten, next_forgotten}
use Rattle.ac_terms.proofs.look_ups.forget_types.Goals as goal

pub loop-spec-preserved : goal.loop-spec-preserved
loop-spec-preserved c = λ (n t : Bytes) l.
    next_forgotten c.args.name.now.0 c.args.specs.now c.args.number c.loop-spec.spec-index c.spec-item.result c.loop-spec-test.true c.spec-item.is n t (c.new-key.ensures.name ∙ sym l) _ _ _ (c.loop-spec.invariant n t l)
    (c.forget.ensures (n ++ t) ∙ ap (λ (b : Bytes). forgetting (same_bytes b (n ++ t)) c.args.number (first_under c.loop-spec.types (n ++ t))) (c.as_slice.ensures ∙ c.new-key.ensures.key))

pub returns : goal.returns
returns c = λ (n t : Bytes) l. sym (all_forgotten c.args.name.now.0 c.args.specs.now c.args.number _ (omega arith) n t _) ∙ c.loop-spec.invariant n t l
