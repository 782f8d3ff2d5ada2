use Rattle.std.proofs.Common.{◌≡◌, ◌-◌, length}
use Rattle.ac_types.specs.ReadTypes.{typ_of}
use Rattle.ac_terms.specs.Read.{environment_of}
use Rattle.ac_rules.specs.Views.{head, rounds, unsealed}
use Rattle.ac_check_views.proofs.heads.head.Given as goal

abbrev pub invariant-loop-i : goal.invariant-loop-i
invariant-loop-i l = head (environment_of l.env) (typ_of l.ty) ≡ rounds (length l.env.entries - l.i) (unsealed (environment_of l.env)) (typ_of l.found)
