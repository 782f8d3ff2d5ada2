use Rattle.std.proofs.Common.{ap, ◌∙◌, position}
use Rattle.ac_index.specs.Noted.{first_under}
use Rattle.ac_terms.specs.Defs.{declares}
use Rattle.ac_terms.specs.Entries.{Entries}
use Rattle.ac_terms.specs.Read.{environment_of}
use Rattle.ac_terms.proofs.env.Env.declaring.Goals as goal

pub returns : goal.returns
returns c =
    c.first.ensures ∙ ap (first_under c.self.inside.types) (c.as_slice.ensures ∙ c.new-key.ensures.key) ∙ c.self.invariant.types c.args.name.now.0 c.args.word.now c.new-key.ensures.name
    ∙ ap (λ (e : Entries). position (declares c.args.name.now.0 c.args.word.now) (environment_of e)) c.self.view_is
