use Rattle.std.proofs.Common.{refl, arith}
use Rattle.ac_pack_terms.proofs.WalkLaws.{popped, no_items, at_none}
use Rattle.ac_pack_terms.proofs.walk.Walk.next.Goals as goal

pub returns-clause-next : goal.returns-clause-next
returns-clause-next c =
    popped c.pop.result c.args.self.now (record c.args.self.now { pieces = c.pop.new.self }) refl refl refl c.pop.ensures.items (λ e. no_items _ (omega (arith, c.args.self.now.pieces.ok.0, (at_none _ _ _ c.pop.ensures.cases e).0)))
