use Rattle.std.proofs.Common.{◌≡◌, ◌∙◌, ap, rules}
use Rattle.ac_resolve_signatures.specs.KnownScopes.{updated}
use Rattle.ac_resolve_signatures.specs.Reads.{under}
use Rattle.ac_resolve_signatures.proofs.Lookups.{entry_put}
use Rattle.ac_resolve_signatures.proofs.outside.put_size.Goals as goal

pub returns : goal.returns
returns c =
    let w : c.as_slice.result.now ≡ c.args.word.now = first_of (cc, search rules) in
    entry_put c.args.sizes.now c.insert.new.self c.as_slice.result c.args.size c.in_ok-insert.ensures.updates ∙ ap (λ b. updated b c.args.size (under c.args.sizes.now)) w
