use Rattle.std.proofs.Common.{rules, ◌≡◌, ◌∙◌, ◌&&◌, ◌+◌, sym, ap, arith, drop, map, true, false, []}
use Rattle.std.specs.List.{list_all}
use Rattle.acute_words.specs.WordValues.{is_file}
use Rattle.acute_words.proofs.Fit.{file_at}
use Rattle.acute_words.proofs.values.are_file_names.Goals as goal

pub returns-then-not-is_file_name : goal.returns-then-not-is_file_name
returns-then-not-is_file_name c =
    let here = file_at c.args.texts.now c.loop-i.i (record { ref_ptr = (0, 0); now = [] }) c.is_file_name.result (omega arith) c.is_file_name.ensures in
    let unfit : c.is_file_name.result ≡ false = search rules in
    let rest = list_all is_file (drop (c.loop-i.i + 1) (map (λ s. s.now) c.args.texts.now)) in
    sym (sym c.loop-i.invariant ∙ here ∙ ap (λ b. b && rest) unfit)

pub loop-i-preserved : goal.loop-i-preserved
loop-i-preserved c =
    let here = file_at c.args.texts.now c.loop-i.i (record { ref_ptr = (0, 0); now = [] }) c.is_file_name.result (omega arith) c.is_file_name.ensures in
    let fit : c.is_file_name.result ≡ true = search rules in
    let rest = list_all is_file (drop (c.loop-i.i + 1) (map (λ s. s.now) c.args.texts.now)) in
    sym (here ∙ ap (λ b. b && rest) fit) ∙ c.loop-i.invariant
