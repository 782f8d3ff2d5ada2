use Rattle.ac_code.specs.ReadCode.{instr_of}
use Rattle.acute_listings.specs.Listing.{instr_line}
use Rattle.ac_text.proofs.Steps.{one_more, get_there}
use Rattle.acute_listings.proofs.blocks.put_instrs.Goals as goal

pub loop-address-preserved : goal.loop-address-preserved
loop-address-preserved c =
    one_more instr_line instr_of c.args.instrs.now c.loop-address.address c.index-instrs-address.result _ _ _
    (get_there c.args.instrs.now c.loop-address.address c.index-instrs-address.result c.loop-address-test.true c.index-instrs-address.is)
    c.loop-address.invariant c.in_ok-put_line.ensures
