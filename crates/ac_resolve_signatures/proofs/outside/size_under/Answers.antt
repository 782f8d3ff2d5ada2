use Rattle.std.proofs.Common.{◌≡◌, ◌∙◌, ap, rules}
use Rattle.ac_resolve_signatures.specs.Reads.{under}
use Rattle.ac_resolve_signatures.proofs.outside.size_under.Goals as goal

pub returns : goal.returns
returns c =
    let w : c.as_slice.result.now ≡ c.args.word.now = first_of (cc, search rules) in
    c.copied.ensures ∙ c.get.ensures.value ∙ ap (under c.args.sizes.now) w
