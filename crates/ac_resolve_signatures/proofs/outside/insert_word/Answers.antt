use Rattle.std.proofs.Common.{◌≡◌, ◌∙◌, ap, rules}
use Rattle.ac_resolve_signatures.specs.KnownScopes.{inserted}
use Rattle.ac_resolve_signatures.specs.Reads.{contains_name}
use Rattle.ac_resolve_signatures.proofs.Lookups.{word_put}
use Rattle.ac_resolve_signatures.proofs.outside.insert_word.Goals as goal

pub returns : goal.returns
returns c =
    let w : c.as_slice.result.now ≡ c.args.word.now = first_of (cc, search rules) in
    word_put c.args.words.now c.insert.new.self c.as_slice.result c.in_ok-insert.ensures.updates ∙ ap (λ b. inserted b (contains_name c.args.words.now)) w
