use Rattle.ac_generate.proofs.TableLaws.{cut_back, kept_blocks}
use Rattle.ac_generate.proofs.generating.generate_entry.Goals as goal

pub returns-in-Err-clause-blocks : goal.returns-in-Err-clause-blocks
returns-in-Err-clause-blocks c =
    kept_blocks c.cut.new.self c.args.table.now
    (cut_back c.args.table.now c.add_entry.new.table c.cut.new.self c.len-blocks.result c.add_entry.ensures.blocks c.in-Err.ensures.err c.len-blocks.ensures c.cut.ensures)

pub returns-in-Err-clause-err : goal.returns-in-Err-clause-err
returns-in-Err-clause-err c =
    cut_back c.args.table.now c.add_entry.new.table c.cut.new.self c.len-blocks.result c.add_entry.ensures.blocks c.in-Err.ensures.err c.len-blocks.ensures c.cut.ensures
