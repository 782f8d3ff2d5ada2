use Rattle.std.proofs.Common.{List, subst, arith}
use Rattle.ac_version.specs.declared.read.VToken.{VToken}
use Rattle.ac_version.specs.VersionReading.{IsVersion}
use Rattle.ac_syntax.specs.ReadTrees.{version_of}
use Rattle.ac_parser.proofs.VersionSteps.{unversioned, versioned}
use Rattle.ac_parser.proofs.versions.written.Goals as goal

pub returns-in_default : goal.returns-in_default
returns-in_default c = record {
  found = unversioned _ c.in_default.ensures.found;
  within = omega arith;
}

pub returns-in-Ok : goal.returns-in-Ok
returns-in-Ok c = record {
  found = versioned _ _ c.in-Some.ensures.found _ _ c.in_ok-tokens.ensures.all _ (subst (λ (l : List VToken). IsVersion l (version_of c.in-Ok.version)) c.as_slice.ensures.value c.in-Ok.ensures.version);
  within = omega (arith, c.in-Some.ensures.shorter, c.in_ok-tokens.ensures.within);
}
