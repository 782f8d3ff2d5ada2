use Rattle.std.proofs.Common.{rules, ◌≡◌, ◌∙◌, ◌&&◌, sym, ap, drop, map, string_bytes, ◌+◌, arith, true, false}
use Rattle.std.specs.List.{list_all}
use Rattle.acute_words.specs.Form.{is_fit}
use Rattle.acute_words.proofs.Fit.{fit_at}
use Rattle.acute_words.proofs.words.are_fit.Goals as goal

pub returns-then-not-is_fit_word : goal.returns-then-not-is_fit_word
returns-then-not-is_fit_word c =
    let here = fit_at c.args.words.now c.loop-i.i c.index-words-i.result (omega arith) c.index-words-i.is in
    let unfit : is_fit (string_bytes c.index-words-i.result) ≡ false = search rules in
    let rest = list_all is_fit (drop (c.loop-i.i + 1) (map string_bytes c.args.words.now)) in
    sym (sym c.loop-i.invariant ∙ here ∙ ap (λ b. b && rest) unfit)

pub loop-i-preserved : goal.loop-i-preserved
loop-i-preserved c =
    let here = fit_at c.args.words.now c.loop-i.i c.index-words-i.result (omega arith) c.index-words-i.is in
    let fit : is_fit (string_bytes c.index-words-i.result) ≡ true = search rules in
    let rest = list_all is_fit (drop (c.loop-i.i + 1) (map string_bytes c.args.words.now)) in
    sym (here ∙ ap (λ b. b && rest) fit) ∙ c.loop-i.invariant
