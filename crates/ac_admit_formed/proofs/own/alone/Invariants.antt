use Rattle.std.proofs.Common.{◌≡◌, drop, map}
use Rattle.sha2.specs.Sha256.{sha256}
use Rattle.ac_terms.specs.Read.{environment_of, pdef_of}
use Rattle.ac_rules.specs.Packets.{alone, alone_after}
use Rattle.ac_admit_formed.proofs.own.alone.Given as goal

abbrev pub invariant-loop-def : goal.invariant-loop-def
invariant-loop-def l = alone_after sha256 (environment_of l.env) (map pdef_of (drop l.def-index l.defs)) ≡ alone sha256 (map pdef_of l.defs)
