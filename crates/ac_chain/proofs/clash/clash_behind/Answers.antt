use Rattle.ac_chain.proofs.Searches.{few_at}
use Rattle.ac_chain.proofs.clash.clash_behind.Goals as goal

pub clash_in-requires : goal.clash_in-requires
clash_in-requires c = few_at c.args.later.now c.loop-k.k _ c.requires.few c.loop-k-test.true
