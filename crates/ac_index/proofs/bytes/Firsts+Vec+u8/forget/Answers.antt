use Rattle.std.proofs.Common.{ap, ◌∙◌, sym, Some, ℕ}
use Rattle.std.specs.declared.vec.Vec.{Vec}
use Rattle.std.specs.declared.alloc.Global.{Global}
use Rattle.ac_types.specs.Types.{Bytes, same_bytes}
use Rattle.ac_index.specs.Noted.{Noted, first_under, forgetting}
use Rattle.ac_index.proofs.NotedLaws.{forgot_at}
use Rattle.ac_index.proofs.bytes.Firsts+Vec+u8.forget.Goals as goal

pub returns-then-first-number : goal.returns-then-first-number
returns-then-first-number c =
    let there = ap (λ (m : Noted). first_under m c.args.key.now) c.self.view_is ∙ sym c.first.ensures ∙ c.in-Some.is ∙ ap Some c.if-first-number.true in
    λ (k : Bytes). forgot_at (λ (k : Vec ℕ Global). k.items) c.self.inside.found.entries c.remove.new.self.entries c.args.key.now c.args.number there c.remove.ensures.entries c.remove.ensures.updates.1 k
    ∙ ap (λ (m : Noted). forgetting (same_bytes c.args.key.now k) c.args.number (first_under m k)) c.self.view_is
