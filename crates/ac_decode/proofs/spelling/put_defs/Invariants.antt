use Rattle.std.proofs.Common.{◌≡◌, ◌++◌, drop, map}
use Rattle.std.specs.Prelude.{flat_map}
use Rattle.ac_terms.specs.Read.{pdef_of}
use Rattle.ac_terms.specs.Spelling.{def_bytes}
use Rattle.ac_decode.proofs.spelling.put_defs.Given as goal

abbrev pub invariant-loop-def : goal.invariant-loop-def
invariant-loop-def l = l.out ++ flat_map def_bytes (map pdef_of (drop l.def-index l.defs)) ≡ l.initial.out ++ flat_map def_bytes (map pdef_of l.defs)
