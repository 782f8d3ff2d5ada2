use Rattle.std.proofs.Common.{ℕ, ◌-◌, ◌<◌, ◌+◌, length, ◌≡◌, ◌∙◌, ap, sym, refl, arith, List, [], reverse, subst, Some}
use Rattle.std.specs.List.{All}
use Rattle.std.proofs.lemmas.List.Elements.{All-append}
use Rattle.ac_values.specs.declared.node.Value.{Value}
use Rattle.ac_values.specs.Values.{MValue, values, values_at}
use Rattle.ac_values.proofs.ReadLaws.{all_one}
use Rattle.ac_machine_engine.specs.Machine.{newest_taken, parts_of_value}
use Rattle.ac_machine_engine.specs.Held.{stack_of}
use Rattle.ac_machine_engine.specs.Steps.{stack_at}
use Rattle.ac_machine_engine.proofs.TakenLaws.{taken_none, taken_more, stack_more, parts_are}
use Rattle.ac_machine_engine.proofs.engine.Engine.make_tuple.Goals as goal

pub returns-in-None : goal.returns-in-None
returns-in-None c =
    let m = c.args.self.now in
    let none = taken_none (c.args.n - c.loop.counter) (stack_of (values m.store) (reverse c.loop.parts.items)) (stack_at m c.loop.rest) (omega (arith, c.loop-test.true)) c.in-None.ensures in
    rw (c.loop.invariant.taken, none) refl

pub loop-preserved : goal.loop-preserved
loop-preserved c =
    let m = c.args.self.now in
    let P : Value → Type 0 = λ v. v.0 < length m.store in
    record {
      rest = c.in-Some.ensures.1;
      within = subst (All P) (sym c.in_ok-push-in-Some.ensures.items) (All-append P c.loop.parts.items _ c.loop.invariant.within (all_one P c.in-Some.part c.in-Some.ensures.0));
      taken = c.loop.invariant.taken ∙ taken_more c.args.n c.loop.counter _ _ _ _ c.loop-test.true c.in-Some.ensures.2
          ∙ ap (λ (g : List MValue). newest_taken (c.args.n - (c.loop.counter + 1)) g (stack_at m c.in-Some.older))
          (sym (ap (λ (vs : List Value). stack_of (values m.store) (reverse vs)) c.in_ok-push-in-Some.ensures.items ∙ stack_more (values m.store) c.loop.parts.items c.in-Some.part));
    }

pub returns : goal.returns
returns c =
    let m = c.args.self.now in
    let got = stack_of (values m.store) (reverse c.loop.parts.items) in
    let none : c.args.n - c.loop.counter ≡ 0 = omega (arith, c.loop-test.false) in
    let all : newest_taken c.args.n [] (stack_at m m.at.stack) ≡ Some (got, stack_at m c.loop.rest) =
    c.loop.invariant.taken ∙ ap (λ (k : ℕ). newest_taken k got (stack_at m c.loop.rest)) none in
    let same : values_at (values m.store) c.from_vec.result ≡ parts_of_value got =
    ap (values_at (values m.store)) (c.from_vec.ensures ∙ c.reverse.ensures.items) ∙ sym (parts_are (values m.store) (reverse c.loop.parts.items)) in
    rw (all, ← same) c.in_ok-step.ensures.does
