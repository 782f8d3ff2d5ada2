use Rattle.std.proofs.Common.{◌≡◌, arith, length, ◌+◌}
use Rattle.ac_terms.specs.Read.{environment_of, seen_of}
use Rattle.ac_load_causes.proofs.Turning.{popped_counted, put_next, one_longer}
use Rattle.ac_load_causes.proofs.links.put_back.Goals as goal

pub linked_entry-requires-clause-counted : goal.linked_entry-requires-clause-counted
linked_entry-requires-clause-counted c = (popped_counted c.loop-entry.part.items c.pop.new.self.items c.in-Some.entry c.in-Some.ensures.items c.loop-entry.invariant.counted).0

pub loop-entry-preserved : goal.loop-entry-preserved
loop-entry-preserved c =
    let a = one_longer c.push.new.self.entries c.loop-entry.env.entries c.in_ok-entry.entry c.in_ok-push.ensures.ok in
    let b = one_longer c.loop-entry.part.items c.pop.new.self.items c.in-Some.entry c.in-Some.ensures.items in
    let few = c.loop-entry.invariant.few in
    record {
      all =
          put_next (seen_of c.args.seen.now) _ c.loop-entry.env.entries c.push.new.self.entries c.loop-entry.part.items c.pop.new.self.items c.in-Some.entry c.in_ok-entry.entry
          c.in-Some.ensures.items c.in_ok-entry.ensures c.in_ok-push.ensures.ok c.loop-entry.invariant.all;
      counted = (popped_counted c.loop-entry.part.items c.pop.new.self.items c.in-Some.entry c.in-Some.ensures.items c.loop-entry.invariant.counted).1;
      few = omega (arith, a, b, few);
    }
