use Rattle.std.proofs.Common.{◌≡◌, ℕ, length, get_or, None}
use Rattle.ac_machine_engine.proofs.fields.keep_at.Given as goal

abbrev pub invariant-loop : goal.invariant-loop
invariant-loop l = record {
  long : length l.kept.items ≡ l.counter;
  same : (k : ℕ) → get_or l.kept.items k None ≡ get_or l.fn.kept.items k None;
}
