use Rattle.ac_resolve_signatures.specs.Reads.{externals_of}
use Rattle.ac_resolve_signatures.proofs.Lookups.{nothing_known}
use Rattle.ac_resolve_signatures.proofs.known.Scan.new.Goals as goal

pub returns : goal.returns
returns c = nothing_known (externals_of c.args.externals.now) c.new.result c.new-2.result c.new.ensures.empty c.new-2.ensures.empty
