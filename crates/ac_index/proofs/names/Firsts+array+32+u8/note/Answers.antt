use Rattle.std.proofs.Common.{sym, ap, ◌∙◌, Some}
use Rattle.std.specs.Option.{option_or}
use Rattle.ac_types.specs.Types.{Bytes, same_bytes}
use Rattle.ac_types.specs.Partial.{given}
use Rattle.ac_index.specs.Noted.{Noted, first_under}
use Rattle.ac_index.proofs.NotedLaws.{none_is, noted_at}
use Rattle.ac_index.proofs.names.Firsts+array+32+u8.note.Goals as goal

pub returns-clause-ok : goal.returns-clause-ok
returns-clause-ok c =
    let none = ap (λ (m : Noted). first_under m c.args.name) c.self.view_is ∙ sym c.first.ensures ∙ none_is c.first.result (sym c.is_some.ensures ∙ c.if-is_some.false) in
    λ (k : Bytes). noted_at (λ (k : Bytes). k) c.self.inside.found.entries c.insert.new.self.entries c.args.name c.args.number none c.in_ok-insert.ensures.entries k
    ∙ ap (λ (m : Noted). option_or (first_under m k) (given (same_bytes c.args.name k) (Some c.args.number))) c.self.view_is
