use Rattle.std.proofs.Common.{arith}
use Rattle.ac_syntax.specs.ReadTrees.{name_of}
use Rattle.ac_syntax.proofs.OnStop.{refused}
use Rattle.ac_parser.proofs.ImportSteps.{unequal, no_by_there, name_wanted}
use Rattle.ac_parser.proofs.imports.name_wanted.Goals as goal

pub returns-in_default : goal.returns-in_default
returns-in_default c = refused _ _ c.refused_at.ensures (λ a. unequal a _ c.in_default.ensures.found)

pub returns-in_default-after : goal.returns-in_default-after
returns-in_default-after c =
    refused _ _ c.refused_at-in_default-after.ensures
    (λ a. no_by_there a _ _ c.in-Some.ensures.found (name_of c.in-Some-2.name) _ (rw c.in-Some-2.is at c.in_ok-name.ensures.found) c.in_default-after.ensures.found)

pub returns : goal.returns
returns c = record {
  found = λ a. name_wanted a _ _ c.in-Some.ensures.found (name_of c.in-Some-2.name) _ (rw c.in-Some-2.is at c.in_ok-name.ensures.found) _ c.in-Some-after.ensures.found;
  shorter = omega (arith, c.in-Some.ensures.shorter, rw c.in-Some-2.is at c.in_ok-name.ensures.shorter, c.in-Some-after.ensures.shorter);
}
