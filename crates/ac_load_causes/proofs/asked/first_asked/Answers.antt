use Rattle.std.proofs.Common.{◌≡◌, arith, ◌<◌, length}
use Rattle.ac_terms.specs.Read.{entry_of}
use Rattle.ac_load_rules.specs.Counted.{has_counted}
use Rattle.ac_load_causes.proofs.Firsts.{all_at}
use Rattle.ac_load_causes.proofs.asked.first_asked.Goals as goal

pub asked-requires : goal.asked-requires
asked-requires c =
    let lt : c.loop-def.def < length c.args.entries.now = omega arith in
    all_at entry_of has_counted c.args.entries.now c.loop-def.def c.index-entries-def.result c.requires.counted lt c.index-entries-def.is
