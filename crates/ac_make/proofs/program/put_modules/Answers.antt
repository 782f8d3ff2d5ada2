use Rattle.std.proofs.Common.{◌∙◌, ◌++◌, ap}
use Rattle.ac_make.specs.ProgramText.{module_text}
use Rattle.ac_make.proofs.Steps.{Takes, module_is, one_more, two_more}
use Rattle.ac_make.proofs.program.put_modules.Goals as goal
use Rattle.ac_make.proofs.program.put_modules.Goals.{In_ok-put_module}

takes : (c : In_ok-put_module) → Takes c.loop-i.draws.state c.draw-first.new.self.state c.draw-second.new.self.state c.draw-first.result c.draw-second.result
takes c = record {
  to_first = c.draw-first.ensures.state;
  first_is = c.draw-first.ensures.value;
  to_second = c.draw-second.ensures.state;
  second_is = c.draw-second.ensures.value;
}

pub loop-i-preserved : goal.loop-i-preserved
loop-i-preserved c =
    let drawn = c.loop-i.invariant.drawn in
    record {
      drawn = two_more c.args.seed _ _ _ _ _ c.loop-i.i drawn (takes c);
      put = one_more (module_text c.args.seed) _ _ _ c.loop-i.i c.loop-i.invariant.put
          (c.in_ok-put_module.ensures ∙ ap (λ l. c.loop-i.text.0 ++ l) (module_is c.args.seed _ _ _ _ _ c.loop-i.i drawn (takes c)));
    }
