use Rattle.std.proofs.Common.{◌≡◌, ◌∙◌, ◌+◌, ap, arith, map, ◌++◌}
use Rattle.ac_types.specs.Types.{Bytes}
use Rattle.acute_files.specs.ShelfLists.{BadLine, line_has, had_of, listed_of}
use Rattle.acute_files.specs.inner.Behind.{fits_behind}
use Rattle.acute_files.proofs.Reached.{within, uris, too_long, go_on}
use Rattle.acute_files.proofs.list.shelf_list.Goals as goal

pub returns-then-line-place-clause-bad : goal.returns-then-line-place-clause-bad
returns-then-line-place-clause-bad c = λ n e.
    let is : c.loop-rest.number + 1 ≡ n = cc in
    let r = c.loop-rest.invariant in
    too_long r c.next_line.result.0.now c.next_line.result.1.now c.next_line.ensures.lines (omega (arith, within r, c.if-line-place.true)) ∙ ap BadLine is

pub loop-rest-preserved : goal.loop-rest-preserved
loop-rest-preserved c =
    let r = c.loop-rest.invariant in
    let xs = map listed_of c.loop-rest.entries in
    let fits = rw c.in-Ok-true.field-0-test at c.in-Ok-true.ensures.fits in
    go_on r c.next_line.result.0.now c.next_line.result.1.now c.next_line.ensures.lines _ c.next_line.ensures.some (omega (arith, within r, c.if-line-place.false))
    (fits ∙ ap (λ (l : Bytes). fits_behind xs (line_has l)) c.without_feed.ensures)
    (c.in-Ok-true.ensures.added c.in-Ok-true.field-0-test ∙ ap (λ (l : Bytes). xs ++ had_of (line_has l)) c.without_feed.ensures)

pub returns-clause-uris : goal.returns-clause-uris
returns-clause-uris c = uris c.loop-rest.invariant
