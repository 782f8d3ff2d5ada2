use Rattle.std.proofs.Common.{◌≤◌, ℕ, drop, Option}
use Rattle.ac_syntax.specs.Signs.{signs}
use Rattle.ac_syntax.proofs.Depth.{Deep}
use Rattle.ac_syntax.proofs.openers.deep.Given as goal

abbrev pub invariant-loop-token : goal.invariant-loop-token
invariant-loop-token l = record {
  low : l.count ≤ 200;
  back : (o : Option ℕ) → Deep l.count (signs (drop l.token-index l.tokens)) o → Deep 0 (signs l.tokens) o;
}
