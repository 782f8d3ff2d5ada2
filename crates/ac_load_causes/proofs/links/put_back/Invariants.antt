use Rattle.std.proofs.Common.{◌≡◌, ◌++◌, ◌+◌, ◌<◌, ◌^◌, length, map, true}
use Rattle.std.specs.List.{list_all}
use Rattle.ac_terms.specs.Read.{environment_of, entry_of, seen_of}
use Rattle.ac_load_rules.specs.Causes.{linked_behind}
use Rattle.ac_load_rules.specs.Counted.{has_counted}
use Rattle.ac_load_causes.specs.inner.Turned.{turned}
use Rattle.ac_load_causes.proofs.links.put_back.Given as goal

abbrev pub invariant-loop-entry : goal.invariant-loop-entry
invariant-loop-entry l = record {
  all :
      environment_of l.fn.env ++ linked_behind (seen_of l.seen) (environment_of l.fn.env) (map entry_of (turned l.fn.part.items))
      ≡ environment_of l.env ++ linked_behind (seen_of l.seen) (environment_of l.env) (map entry_of (turned l.part.items));
  counted : list_all has_counted (map entry_of (turned l.part.items)) ≡ true;
  few : length l.env.entries + length l.part.items < 2 ^ 32;
}

abbrev pub decreases-loop-entry : goal.decreases-loop-entry
decreases-loop-entry l = length l.part.items
