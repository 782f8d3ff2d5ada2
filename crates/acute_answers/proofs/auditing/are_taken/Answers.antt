use Rattle.std.proofs.Common.{rules, ◌≡◌, ◌∙◌, ◌&&◌, ◌+◌, sym, ap, arith, drop, true, false}
use Rattle.std.specs.List.{list_all}
use Rattle.acute_answers.specs.Auditing.{takes_frame}
use Rattle.acute_answers.proofs.VerdictLines.{all_at}
use Rattle.acute_answers.proofs.auditing.are_taken.Goals as goal

pub returns-then-not-takes_frame : goal.returns-then-not-takes_frame
returns-then-not-takes_frame c =
    let vs = c.args.verdicts.now in
    let x = c.index-verdicts-i.result in
    let here = all_at takes_frame vs c.loop-i.i x c.takes_frame.result (omega arith) (c.takes_frame.ensures ∙ ap takes_frame c.index-verdicts-i.is) in
    let refused : c.takes_frame.result ≡ false = search rules in
    let rest = list_all takes_frame (drop (c.loop-i.i + 1) vs) in
    sym (sym c.loop-i.invariant ∙ here ∙ ap (λ b. b && rest) refused)

pub loop-i-preserved : goal.loop-i-preserved
loop-i-preserved c =
    let vs = c.args.verdicts.now in
    let x = c.index-verdicts-i.result in
    let here = all_at takes_frame vs c.loop-i.i x c.takes_frame.result (omega arith) (c.takes_frame.ensures ∙ ap takes_frame c.index-verdicts-i.is) in
    let taken : c.takes_frame.result ≡ true = search rules in
    let rest = list_all takes_frame (drop (c.loop-i.i + 1) vs) in
    sym (here ∙ ap (λ b. b && rest) taken) ∙ c.loop-i.invariant
