-- What the arguments of a command come to, one by one.
use Rattle.std.proofs.Common.{◌≡◌, refl, ◌<◌, ◌+◌, ℕ, zero, suc, arith, length, drop, get_or, List, [], ◌∷◌}
use Rattle.clap.specs.Words.{App, with_rule}
use Rattle.acute_words.specs.declared.arguments.Argument.{Argument}
use Rattle.acute_words.specs.inner.Apps.{rule_by, with_arguments}

-- one more argument, the one at i
more_there : (a : App) (arguments : List Argument) (i : ℕ) (d : Argument) → i < length arguments
    → with_arguments (with_rule a (rule_by (get_or arguments i d))) (drop (suc i) arguments) ≡ with_arguments a (drop i arguments)
more_there a [] i d lt = absurd (omega arith)
more_there a (x ∷ xs) zero d lt = refl
more_there a (x ∷ xs) (suc i) d lt = more_there a xs i d (omega arith)

-- the same, with the next number as the program has it
pub one_more : (a b : App) (arguments : List Argument) (i : ℕ) (d : Argument) → i < length arguments → b ≡ with_rule a (rule_by (get_or arguments i d))
    → with_arguments b (drop (i + 1) arguments) ≡ with_arguments a (drop i arguments)
one_more a b arguments i d lt is =
    let next : i + 1 ≡ suc i = omega arith in rw (next, is) (more_there a arguments i d lt)
