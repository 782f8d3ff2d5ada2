-- The numbers that are drawn from a seed: a linear congruential sequence of 64 bits, of whose states the upper 31 bits are given.
use Rattle.std.specs.Prelude.{ℕ, zero, suc, ◌+◌, ◌*◌, ◌/◌, ◌%◌, ◌^◌}

-- the state behind a state
abbrev pub next_state : ℕ → ℕ
next_state s = (s * 6364136223846793005 + 1442695040888963407) % 2 ^ 64

-- the state after k draws; before the first it is the seed
abbrev pub state_after : ℕ → ℕ → ℕ
state_after seed zero = seed
state_after seed (suc k) = next_state (state_after seed k)

-- what a draw gives that leads to this state
abbrev pub drawn : ℕ → ℕ
drawn s = s / 2 ^ 33

-- draw k, from 0
abbrev pub draw : ℕ → ℕ → ℕ
draw seed k = drawn (state_after seed (k + 1))
