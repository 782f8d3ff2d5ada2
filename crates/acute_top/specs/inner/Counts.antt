-- One count for two.
use Rattle.std.specs.Prelude.{ℕ, cond, nat_le}
use Rattle.ac_outside.specs.Outside.{risen}

-- one count for the writes of a run, from those of its console and its channel: once one of them has risen above what it was, it counts as risen
abbrev pub count_of_both : ℕ → ℕ → ℕ → ℕ → ℕ
count_of_both a b c d = cond (nat_le (risen a) c) 18446744073709551615 (cond (nat_le (risen b) d) 18446744073709551615 0)
