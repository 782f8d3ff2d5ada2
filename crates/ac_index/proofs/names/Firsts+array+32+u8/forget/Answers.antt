use Rattle.std.proofs.Common.{ap, ◌∙◌, sym, Some}
use Rattle.ac_types.specs.Types.{Bytes, same_bytes}
use Rattle.ac_index.specs.Noted.{Noted, first_under, forgetting}
use Rattle.ac_index.proofs.NotedLaws.{forgot_at}
use Rattle.ac_index.proofs.names.Firsts+array+32+u8.forget.Goals as goal

pub returns-then-first-number : goal.returns-then-first-number
returns-then-first-number c =
    let there = ap (λ (m : Noted). first_under m c.args.name.now) c.self.view_is ∙ sym c.first.ensures ∙ c.in-Some.is ∙ ap Some c.if-first-number.true in
    λ (k : Bytes). forgot_at (λ (k : Bytes). k) c.self.inside.found.entries c.remove.new.self.entries c.args.name.now c.args.number there c.remove.ensures.entries c.remove.ensures.updates.1 k
    ∙ ap (λ (m : Noted). forgetting (same_bytes c.args.name.now k) c.args.number (first_under m k)) c.self.view_is
