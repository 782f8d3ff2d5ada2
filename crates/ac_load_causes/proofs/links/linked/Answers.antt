use Rattle.std.proofs.Common.{◌≡◌, ◌∙◌, ap, arith, length, ◌+◌, length-append}
use Rattle.ac_load_causes.specs.inner.Turned.{turned}
use Rattle.ac_load_causes.proofs.Turning.{taken_off, one_longer, turned_length}
use Rattle.ac_load_causes.proofs.links.linked.Goals as goal

pub loop-env-preserved-in-Continue-1 : goal.loop-env-preserved-in-Continue-1
loop-env-preserved-in-Continue-1 c =
    let b = one_longer c.loop-env.env.entries c.pop.new.self.entries c.in-Some.entry c.in-Some.ensures.entries in
    record {
      all = taken_off _ c.loop-env.env.entries c.pop.new.self.entries c.loop-env.behind.items c.push.new.self.items c.in-Some.entry c.in-Some.ensures.entries c.in_ok-push.ensures.items c.loop-env.invariant.all;
      within = omega (arith, b);
    }

pub put_back-requires-clause-few : goal.put_back-requires-clause-few
put_back-requires-clause-few c =
    let b = ap length c.loop-env.invariant.all in
    let d = length-append c.loop-env.env.entries (turned c.loop-env.behind.items) in
    let e = turned_length c.loop-env.behind.items in
    let few = c.requires.few in
    omega (arith, b, d, e, few)
