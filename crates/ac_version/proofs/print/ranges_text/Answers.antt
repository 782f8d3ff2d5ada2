use Rattle.std.proofs.Common.{◌∙◌, ◌++◌, ◌+◌, ap, map, drop, false}
use Rattle.std.proofs.lemmas.List.{at_drop_more}
use Rattle.ac_types.specs.ReadTypes.{range_of}
use Rattle.ac_types.specs.declared.sig.Range.TheVariants.{One}
use Rattle.ac_version.specs.Printing.{tokens_joined, ranges_tokens}
use Rattle.ac_version.proofs.Printing.{ranges_step, put_range}
use Rattle.ac_version.proofs.print.ranges_text.Goals as goal

pub loop-range-preserved : goal.loop-range-preserved
loop-range-preserved c =
    let first = c.loop-range.is_first in
    let next = at_drop_more (λ l. tokens_joined (ranges_tokens first (map range_of l) c.args.star)) c.args.ranges.now c.loop-range.range-index (One 0) c.loop-range-test.true in
    let cut = ranges_step first _ (ranges_tokens false (map range_of (drop (c.loop-range.range-index + 1) c.args.ranges.now)) c.args.star) in
    put_range _ _ _ _ _ _ _ (c.loop-range.invariant ∙ ap (λ l. c.loop-range.text.0 ++ l) (next ∙ cut)) c.in_ok-put_dot.ensures c.in_ok-put_range.ensures
