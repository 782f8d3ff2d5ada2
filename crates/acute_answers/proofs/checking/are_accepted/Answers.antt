use Rattle.std.proofs.Common.{rules, ◌≡◌, ◌∙◌, ◌&&◌, ◌+◌, sym, ap, arith, drop, true, false}
use Rattle.std.specs.List.{list_all}
use Rattle.acute_answers.specs.Checking.{is_accepted}
use Rattle.acute_answers.proofs.VerdictLines.{all_at}
use Rattle.acute_answers.proofs.checking.are_accepted.Goals as goal

pub returns-then-not-is_accepted : goal.returns-then-not-is_accepted
returns-then-not-is_accepted c =
    let here = all_at is_accepted c.args.verdicts.now c.loop-i.i _ c.is_accepted.result (omega arith) c.is_accepted.ensures in
    let refused : c.is_accepted.result ≡ false = search rules in
    let rest = list_all is_accepted (drop (c.loop-i.i + 1) c.args.verdicts.now) in
    sym (sym c.loop-i.invariant ∙ here ∙ ap (λ b. b && rest) refused)

pub loop-i-preserved : goal.loop-i-preserved
loop-i-preserved c =
    let here = all_at is_accepted c.args.verdicts.now c.loop-i.i _ c.is_accepted.result (omega arith) c.is_accepted.ensures in
    let accepted : c.is_accepted.result ≡ true = search rules in
    let rest = list_all is_accepted (drop (c.loop-i.i + 1) c.args.verdicts.now) in
    sym (here ∙ ap (λ b. b && rest) accepted) ∙ c.loop-i.invariant
