use Rattle.std.proofs.Common.{◌≡◌, ◌∷◌, ap, true, false, arith}
use Rattle.std.proofs.lemmas.Result.{err_from_is_err_and}
use Rattle.ac_decode_pieces.proofs.Taken.{truth_taken, other_truth, truth_refused}
use Rattle.ac_decode_pieces.proofs.numbers.take_truth.Goals as goal

pub returns-in_err-n : goal.returns-in_err-n
returns-in_err-n c =
    let p = err_from_is_err_and c.from_residual.result c.from_residual.ensures.1 in
    rw (p.1, p.2) (truth_refused c.args.cursor.now.left c.in_err-n.field-0.0 c.in_err-n.ensures)

pub returns-then-n-gt1 : goal.returns-then-n-gt1
returns-then-n-gt1 c = other_truth _ _ _ c.in_ok-n.ensures c.if-n-gt1.true

pub returns-then-n-eq1 : goal.returns-then-n-eq1
returns-then-n-eq1 c = truth_taken _ _ true _ c.in_ok-n.ensures (ap (λ k. k ∷ c.take_byte.new.cursor.left) c.if-n-eq1.true)

pub returns : goal.returns
returns c =
    let zero : c.in_ok-n.n ≡ 0 = omega arith in
    truth_taken _ _ false _ c.in_ok-n.ensures (ap (λ k. k ∷ c.take_byte.new.cursor.left) zero)
