use Rattle.std.proofs.Common.{◌≡◌, ◌-◌, ◌<◌, length, reverse, []}
use Rattle.ac_values.specs.Values.{values}
use Rattle.ac_machine_engine.specs.Machine.{newest_taken}
use Rattle.ac_machine_engine.specs.Held.{stack_of}
use Rattle.std.specs.List.{All}
use Rattle.ac_machine_engine.specs.Steps.{stack_at}
use Rattle.ac_machine_engine.proofs.engine.Engine.make_tuple.Given as goal

abbrev pub invariant-loop : goal.invariant-loop
invariant-loop l = record {
  rest : l.rest < length l.self.stacks;
  within : All (λ v. v.0 < length l.self.store) l.parts.items;
  taken : newest_taken l.n [] (stack_at l.self l.self.at.stack) ≡ newest_taken (l.n - l.counter) (stack_of (values l.self.store) (reverse l.parts.items)) (stack_at l.self l.rest);
}
