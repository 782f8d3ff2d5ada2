use Rattle.std.proofs.Common.{◌≡◌, ◌∙◌, ap, rules}
use Rattle.std.specs.Prelude.{option_map}
use Rattle.ac_resolve_signatures.specs.Reads.{under, members_of}
use Rattle.ac_resolve_signatures.proofs.outside.outside_of.Goals as goal

pub returns : goal.returns
returns c =
    let w : c.as_slice.result.now ≡ c.args.word.now = first_of (cc, search rules) in
    ap (option_map members_of) (c.get.ensures.value ∙ ap (under c.args.externals.now) w)
