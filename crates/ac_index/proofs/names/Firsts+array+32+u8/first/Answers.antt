use Rattle.std.proofs.Common.{ap, ◌∙◌}
use Rattle.ac_types.specs.Types.{Bytes}
use Rattle.ac_index.specs.Noted.{Noted, first_under}
use Rattle.ac_index.proofs.NotedLaws.{found_at}
use Rattle.ac_index.proofs.names.Firsts+array+32+u8.first.Goals as goal

pub returns : goal.returns
returns c =
    c.copied.ensures ∙ c.get.ensures.value ∙ found_at (λ (k : Bytes). k) c.self.inside.found.entries c.args.name.now
    ∙ ap (λ (m : Noted). first_under m c.args.name.now) c.self.view_is
