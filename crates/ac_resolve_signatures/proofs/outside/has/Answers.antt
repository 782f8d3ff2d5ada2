use Rattle.std.proofs.Common.{◌≡◌, ◌∙◌, ap, rules}
use Rattle.ac_resolve_signatures.specs.Reads.{contains_name}
use Rattle.ac_resolve_signatures.proofs.outside.has.Goals as goal

pub returns : goal.returns
returns c =
    let w : c.as_slice.result.now ≡ c.args.word.now = first_of (cc, search rules) in
    c.contains.ensures ∙ ap (contains_name c.args.words.now) w
