use Rattle.std.proofs.Common.{arith}
use Rattle.ac_text.proofs.PlaceLaws.{lines_feed, lines_no, columns_feed, columns_no, lines_end, columns_end}
use Rattle.ac_text.proofs.place.place_behind.Goals.{then-byte-eq10, else-byte-eq10}
use Rattle.ac_text.proofs.place.place_behind.Goals as goal

pub loop-byte-preserved : goal.loop-byte-preserved
loop-byte-preserved c =
    let v = c.loop-byte.invariant in
    elim c.if-byte-eq10.branch [
      | then-byte-eq10 w ↦ rw (w.feeds-is, w.since-is) (record {
        few = omega (arith, v.few);
        near = omega arith;
        lines = lines_feed _ _ _ _ c.loop-byte-test.true w.if-byte-eq10.true v.lines;
        columns = columns_feed _ _ _ _ c.loop-byte-test.true w.if-byte-eq10.true v.columns;
      })
      | else-byte-eq10 w ↦ rw (w.feeds-is, w.since-is) (record {
        few = omega (arith, v.few);
        near = omega (arith, v.near);
        lines = lines_no _ _ _ _ c.loop-byte-test.true w.if-byte-eq10.false v.lines;
        columns = columns_no _ _ _ _ c.loop-byte-test.true w.if-byte-eq10.false v.columns;
      })
    ]

pub returns-clause-line : goal.returns-clause-line
returns-clause-line c = lines_end _ _ _ c.loop-byte-test.false c.loop-byte.invariant.lines

pub returns-clause-column : goal.returns-clause-column
returns-clause-column c = columns_end _ _ _ c.loop-byte-test.false c.loop-byte.invariant.columns
