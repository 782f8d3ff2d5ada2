use Rattle.std.proofs.Common.{◌∙◌, sym, ap₂, arith, ◌∷◌, ◌+◌, length}
use Rattle.std.proofs.lemmas.List.{take_all, drop_all}
use Rattle.ac_types.specs.Types.{Bytes}
use Rattle.acute_files.specs.ShelfLists.{is_feed, lines}
use Rattle.acute_files.proofs.Lines.{feed_first, no_feed, place_within}
use Rattle.acute_files.proofs.line.next_line.Goals as goal

pub returns-then-at-text-clause-lines : goal.returns-then-at-text-clause-lines
returns-then-at-text-clause-lines c =
    let text = c.args.text.now in
    feed_first text c.place_of-at.result (c.place_of-at.result + 1) c.place_of-at.ensures c.if-at-text.true (omega arith)
    ∙ ap₂ (λ (line behind : Bytes). line ∷ lines behind) (sym c.split_at.ensures.front) (sym c.split_at.ensures.back)

pub returns-clause-lines : goal.returns-clause-lines
returns-clause-lines c =
    let text = c.args.text.now in
    no_feed text (omega (arith, c.place_of-at.ensures, c.if-at-text.false, place_within is_feed text)) c.requires
    ∙ ap₂ (λ (line behind : Bytes). line ∷ lines behind) (sym (c.split_at-2.ensures.front ∙ take_all (length text) text (omega arith))) (sym (c.split_at-2.ensures.back ∙ drop_all (length text) text (omega arith)))
