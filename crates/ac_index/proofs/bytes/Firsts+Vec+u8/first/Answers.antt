use Rattle.std.proofs.Common.{ap, ◌∙◌, ℕ}
use Rattle.std.specs.declared.vec.Vec.{Vec}
use Rattle.std.specs.declared.alloc.Global.{Global}
use Rattle.ac_index.specs.Noted.{Noted, first_under}
use Rattle.ac_index.proofs.NotedLaws.{found_at}
use Rattle.ac_index.proofs.bytes.Firsts+Vec+u8.first.Goals as goal

pub returns : goal.returns
returns c =
    c.copied.ensures ∙ c.get.ensures.value ∙ found_at (λ (k : Vec ℕ Global). k.items) c.self.inside.found.entries c.args.key.now
    ∙ ap (λ (m : Noted). first_under m c.args.key.now) c.self.view_is
