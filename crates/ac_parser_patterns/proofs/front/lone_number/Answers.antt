use Rattle.ac_parser_patterns.proofs.front.lone_number.Goals as goal

pub returns-in_err-n : goal.returns-in_err-n
returns-in_err-n c = rw c.from_residual.ensures (λ n rest l. c.in_err-n.ensures n rest l.number)
