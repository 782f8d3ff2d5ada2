use Rattle.ac_syntax.proofs.Depth.{found_at, next_token, passed}
use Rattle.ac_syntax.proofs.openers.deep.Goals as goal

pub returns-then-count-gt-MOST_OPENERS : goal.returns-then-count-gt-MOST_OPENERS
returns-then-count-gt-MOST_OPENERS c =
    found_at _ _ _ c.loop-token.invariant.back _ _ c.loop-token-test.true c.token-item.is c.open_after-count.ensures c.if-count-gt-MOST_OPENERS.true

pub loop-token-preserved : goal.loop-token-preserved
loop-token-preserved c = record {
  low = c.if-count-gt-MOST_OPENERS.false;
  back = next_token _ _ _ c.loop-token.invariant.back _ _ c.loop-token-test.true c.token-item.is c.open_after-count.ensures c.if-count-gt-MOST_OPENERS.false;
}

pub returns : goal.returns
returns c = passed _ _ _ c.loop-token.invariant.back c.loop-token-test.false
