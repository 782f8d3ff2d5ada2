use Rattle.std.proofs.Common.{◌≡◌, map, drop}
use Rattle.ac_terms.specs.Read.{entry_of}
use Rattle.ac_load_rules.specs.Causes.{first_at}
use Rattle.ac_load_causes.specs.inner.Asked.{asked}
use Rattle.ac_load_causes.proofs.asked.first_asked.Given as goal

abbrev pub invariant-loop-def : goal.invariant-loop-def
invariant-loop-def l = first_at 0 (asked l.question) (map entry_of l.entries) ≡ first_at l.def (asked l.question) (map entry_of (drop l.def l.entries))
