use Rattle.std.proofs.Common.{◌∙◌, sym}
use Rattle.ac_terms.specs.Read.{import_of_code, environment_of}
use Rattle.ac_link.specs.inner.Candidates.{comes_from}
use Rattle.ac_link.proofs.FrontLaws.{latest_in_front}
use Rattle.ac_link.proofs.resolving.latest_in_front.Goals as goal

pub returns : goal.returns
returns c =
    c.latest_of_first.ensures
    ∙ sym (latest_in_front (comes_from c.args.origin) c.requires.origin (environment_of c.args.env.now) (import_of_code c.args.import.now) c.args.front c.requires.front)
