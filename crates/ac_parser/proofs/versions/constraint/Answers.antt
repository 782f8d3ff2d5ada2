use Rattle.std.proofs.Common.{List, subst}
use Rattle.ac_version.specs.declared.read.VToken.{VToken}
use Rattle.ac_version.specs.VersionReading.{ReadsConstraint}
use Rattle.ac_types.specs.ReadTypes.{constraint_of}
use Rattle.ac_parser.proofs.VersionSteps.{constraint_read}
use Rattle.ac_parser.proofs.versions.constraint.Goals as goal

pub returns-in-Ok : goal.returns-in-Ok
returns-in-Ok c = record {
  found = constraint_read _ _ _ c.in_ok-tokens.ensures.all _ (subst (λ (l : List VToken). ReadsConstraint l (constraint_of c.in-Ok.constraint)) c.as_slice.ensures.value c.in-Ok.ensures.constraint);
  within = c.in_ok-tokens.ensures.within;
}
