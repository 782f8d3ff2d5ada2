use Rattle.std.proofs.Common.{◌≡◌, ◌∙◌, ap, rules}
use Rattle.ac_resolve_signatures.specs.KnownScopes.{updated}
use Rattle.ac_resolve_signatures.specs.Reads.{members_of, externals_of}
use Rattle.ac_resolve_signatures.proofs.Lookups.{definition_put}
use Rattle.ac_resolve_signatures.proofs.outside.put_outside.Goals as goal

pub returns : goal.returns
returns c =
    let w : c.as_slice.result.now ≡ c.args.word.now = first_of (cc, search rules) in
    definition_put c.args.externals.now c.insert.new.self c.as_slice.result c.args.outside c.in_ok-insert.ensures.updates ∙ ap (λ b. updated b (members_of c.args.outside) (externals_of c.args.externals.now)) w
