use Rattle.std.proofs.Common.{ap, ◌∙◌}
use Rattle.ac_terms.specs.Entries.{Entries}
use Rattle.ac_terms.specs.Find.{find}
use Rattle.ac_terms.proofs.EnvLaws.{found_name}
use Rattle.ac_terms.proofs.env.Env.place.Goals as goal

pub returns : goal.returns
returns c =
    c.first.ensures ∙ c.self.invariant.names c.args.name.now.0 ∙ found_name (record { entries = c.self.inside.entries.items }) c.args.name.now
    ∙ ap (λ (e : Entries). find e.entries c.args.name.now) c.self.view_is
