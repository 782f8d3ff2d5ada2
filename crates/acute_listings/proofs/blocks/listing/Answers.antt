use Rattle.std.proofs.Common.{◌≡◌, ◌++◌, arith}
use Rattle.ac_code.specs.ReadCode.{block_of}
use Rattle.ac_code.specs.declared.block.Block.{Block}
use Rattle.acute_listings.specs.Listing.{block_lines}
use Rattle.ac_text.proofs.Steps.{one_more, there_is}
use Rattle.acute_listings.proofs.blocks.listing.Goals as goal

pub loop-number-preserved : goal.loop-number-preserved
loop-number-preserved c =
    let there = there_is c.args.table.now.blocks c.loop-number.number c.block.result c.block.ensures (omega (arith, c.loop-number-test.true, c.len-number-end.ensures)) (λ (b : Block). c.put_block_if_any.new.text.0 ≡ c.loop-number.text.0 ++ block_lines c.loop-number.number (block_of b)) c.in_ok-put_block_if_any.ensures in
    one_more block_lines block_of c.args.table.now.blocks c.loop-number.number there.0 _ _ _ there.1 c.loop-number.invariant there.2
