use Rattle.std.proofs.Common.{subst, drop, ◌+◌, List}
use Rattle.ac_values.specs.declared.node.Value.{Value}
use Rattle.ac_machine_engine.specs.Steps.{Binding}
use Rattle.ac_machine_primitives.proofs.ListLaws.{next_at, drop_past}
use Rattle.ac_machine_engine.proofs.BindLaws.{binding_start, binding_on, binding_end}
use Rattle.ac_machine.proofs.jumps.bind_all.Goals as goal

pub loop-value-init : goal.loop-value-init
loop-value-init c = binding_start c.args.engine.now c.args.found.now c.requires.sound

pub loop-value-preserved : goal.loop-value-preserved
loop-value-preserved c =
    let i = c.loop-value.value-index in
    binding_on c.args.engine.now c.loop-value.engine c.add.new.self c.args.found.now (drop (i + 1) c.args.found.now) _ c.in_ok-engine.field-0
    (subst (λ (l : List Value). Binding c.args.engine.now c.loop-value.engine c.args.found.now l) (next_at c.args.found.now i _ c.loop-value-test.true) c.loop-value.invariant)
    (c.requires.within i _ c.loop-value-test.true) c.in_ok-engine.ensures

pub returns : goal.returns
returns c = binding_end c.args.engine.now c.loop-value.engine c.args.found.now (drop c.loop-value.value-index c.args.found.now) c.loop-value.invariant (drop_past c.args.found.now c.loop-value.value-index c.loop-value-test.false)
