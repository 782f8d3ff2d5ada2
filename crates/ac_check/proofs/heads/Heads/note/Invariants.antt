use Rattle.std.proofs.Common.{◌≡◌, ◌-◌}
use Rattle.ac_types.specs.ReadTypes.{typ_of}
use Rattle.ac_terms.specs.Read.{environment_of}
use Rattle.ac_rules.specs.Views.{rounds, unsealed}
use Rattle.ac_check.specs.inner.Heads.{AreHeads}
use Rattle.ac_check.proofs.heads.Heads.note.Given as goal

abbrev pub invariant-loop-before : goal.invariant-loop-before
invariant-loop-before l = record {
  heads : AreHeads (environment_of l.env) l.self;
  left : rounds (l.end.openings - l.before) (unsealed (environment_of l.env)) (typ_of l.here) ≡ typ_of l.end.ty.now;
}
