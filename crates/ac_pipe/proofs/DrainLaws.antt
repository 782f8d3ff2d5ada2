-- What reads take of what a child gives.
use Rattle.std.proofs.Common.{◌≡◌, inl, inr, ◌≤◌, ◌+◌, ℕ, List, length, drop, ◌∙◌, ap, arith}
use Rattle.std.proofs.lemmas.List.{length-drop}
use Rattle.ac_outside.specs.Outside.{Takes, rest}
use Rattle.ac_outside.specs.declared.traits.Got.TheVariants as got
use Rattle.ac_pipe.specs.Draining.{most_dropped, IsDrained}

-- a read of n bytes takes so many
pub taken_more : (n dropped all : ℕ) (old new buf : List ℕ) → Takes (got.Bytes n) old buf → new ≡ rest (got.Bytes n) old → dropped + length old ≡ all → dropped + n + length new ≡ all
taken_more n dropped all old new buf takes is total =
    let there = takes.there in
    let left : length new ≡ length (drop n old) = ap length is in
    omega (arith, length-drop n old, left, there, total)

-- at the end nothing is left
pub drained_whole : (start old new buf : List ℕ) → Takes got.End old buf → new ≡ rest got.End old → IsDrained start new
drained_whole start old new buf takes is = inl (is ∙ takes)

-- or so many bytes were taken
pub drained_much : (dropped : ℕ) (start new : List ℕ) → most_dropped ≤ dropped → dropped + length new ≡ length start → IsDrained start new
drained_much dropped start new le total = inr (omega (arith, le, total))
