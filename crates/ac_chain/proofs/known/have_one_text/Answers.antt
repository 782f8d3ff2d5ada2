use Rattle.std.proofs.Common.{arith}
use Rattle.ac_chain.proofs.Searches.{few_of}
use Rattle.ac_chain.proofs.KnownLaws.{all_kept}
use Rattle.ac_chain.proofs.known.have_one_text.Goals as goal

pub add_entries-requires : goal.add_entries-requires
add_entries-requires c = few_of c.args.programs.now c.loop-program.program-index c.program-item.result c.requires c.loop-program-test.true c.program-item.is

pub returns : goal.returns
returns c = λ one. all_kept c.args.programs.now c.loop-program.known.table (λ i d lt. c.loop-program.invariant i d (omega (arith, lt)))
