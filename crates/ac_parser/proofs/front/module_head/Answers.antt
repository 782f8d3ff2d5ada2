use Rattle.std.proofs.Common.{arith}
use Rattle.ac_syntax.specs.ReadTrees.{name_of}
use Rattle.ac_syntax.proofs.OnStop.{refused}
use Rattle.ac_parser.proofs.Fronts.{no_colon, headed}
use Rattle.ac_parser.proofs.front.module_head.Goals as goal

pub returns-in_default-after : goal.returns-in_default-after
returns-in_default-after c =
    refused _ _ c.refused_at-in_default-after.ensures (no_colon _ (name_of c.in-Some.name) _ (rw c.in-Some.is at c.in_ok-name.ensures.found) c.in_default-after.ensures.found)

pub returns : goal.returns
returns c = record {
  found = headed _ (name_of c.in-Some.name) _ (rw c.in-Some.is at c.in_ok-name.ensures.found) _ c.in-Some-after.ensures.found _ _ c.in_ok-found.ensures.sig;
  shorter = omega (arith, rw c.in-Some.is at c.in_ok-name.ensures.shorter, c.in-Some-after.ensures.shorter, c.in_ok-found.ensures.shorter);
}
