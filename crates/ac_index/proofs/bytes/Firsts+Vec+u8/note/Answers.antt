use Rattle.std.proofs.Common.{sym, ap, ◌∙◌, Some, ℕ}
use Rattle.std.specs.Option.{option_or}
use Rattle.std.specs.declared.vec.Vec.{Vec}
use Rattle.std.specs.declared.alloc.Global.{Global}
use Rattle.ac_types.specs.Types.{Bytes, same_bytes}
use Rattle.ac_types.specs.Partial.{given}
use Rattle.ac_index.specs.Noted.{Noted, first_under}
use Rattle.ac_index.proofs.NotedLaws.{none_is, noted_at}
use Rattle.ac_index.proofs.bytes.Firsts+Vec+u8.note.Goals as goal

pub returns-clause-ok : goal.returns-clause-ok
returns-clause-ok c =
    let none = ap (λ (m : Noted). first_under m c.args.key.items) c.self.view_is ∙ ap (first_under c.args.self.now) (sym c.as_slice.ensures.value) ∙ sym c.first.ensures ∙ none_is c.first.result (sym c.is_some.ensures ∙ c.if-is_some.false) in
    λ (k : Bytes). noted_at (λ (k : Vec ℕ Global). k.items) c.self.inside.found.entries c.insert.new.self.entries c.args.key c.args.number none c.in_ok-insert.ensures.entries k
    ∙ ap (λ (m : Noted). option_or (first_under m k) (given (same_bytes c.args.key.items k) (Some c.args.number))) c.self.view_is
