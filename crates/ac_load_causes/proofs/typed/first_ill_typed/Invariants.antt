use Rattle.std.proofs.Common.{◌≡◌, ◌-◌, ◌≤◌, map, drop}
use Rattle.ac_terms.specs.Read.{environment_of, entry_of}
use Rattle.ac_load_rules.specs.Causes.{first_at, ill_typed}
use Rattle.ac_load_causes.proofs.typed.first_ill_typed.Given as goal

abbrev pub invariant-loop-i : goal.invariant-loop-i
invariant-loop-i l = record {
  left :
      first_at 0 (ill_typed (environment_of l.env) l.front) (drop l.front (environment_of l.env))
      ≡ first_at (l.i - l.front) (ill_typed (environment_of l.env) l.front) (map entry_of (drop l.i l.entries));
  behind : l.front ≤ l.i;
}
