use Rattle.std.proofs.Common.{arith, ◌≤◌, ◌^◌}
use Rattle.ac_lexer.specs.Spellings.{value}
use Rattle.ac_lexer.proofs.Values.{value_step}
use Rattle.ac_lexer.proofs.words.value.Goals as goal

pub returns-in_err-checked_mul : goal.returns-in_err-checked_mul
returns-in_err-checked_mul c =
    let within = value_step _ _ _ _ c.loop-digit-test.true c.loop-digit.invariant in
    let large : 2 ^ 63 ≤ value c.args.digits.now = omega (arith, within, c.in_err-checked_mul.ensures) in
    rw c.from_residual.ensures large

pub returns-in_err-value : goal.returns-in_err-value
returns-in_err-value c =
    let within = value_step _ _ _ _ c.loop-digit-test.true c.loop-digit.invariant in
    let large : 2 ^ 63 ≤ value c.args.digits.now = omega (arith, within, c.from-digit.ensures, c.in_ok-checked_mul.ensures, c.in_err-value.ensures, c.saturating_sub.ensures) in
    rw c.from_residual-in_err-value.ensures large
