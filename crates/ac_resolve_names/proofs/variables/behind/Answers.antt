use Rattle.std.proofs.Common.{◌≡◌, true, false, rules, arith}
use Rattle.ac_types.specs.Types.{same_bytes}
use Rattle.ac_resolve_names.proofs.Scoping.{behind_more, behind_found}
use Rattle.ac_resolve_names.proofs.variables.behind.Goals as goal

pub returns-then-is : goal.returns-then-is
returns-then-is c =
    let s : same_bytes c.index-names-left.result.word c.args.word.now ≡ true = first_of (cc, search rules) in
    behind_found _ _ _ c.loop-left.left _ c.index-names-left.result (omega arith) (omega arith) (omega arith) c.index-names-left.is s c.loop-left.invariant.1

pub loop-left-preserved : goal.loop-left-preserved
loop-left-preserved c =
    let s : same_bytes c.index-names-left.result.word c.args.word.now ≡ false = first_of (cc, search rules) in
    (omega arith, behind_more _ _ _ c.loop-left.left c.index-names-left.result (omega arith) (omega arith) c.index-names-left.is s c.loop-left.invariant.1)
