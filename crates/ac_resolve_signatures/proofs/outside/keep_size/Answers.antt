use Rattle.std.proofs.Common.{◌∙◌, ap, sym}
use Rattle.std.specs.Prelude.{is_some}
use Rattle.ac_resolve_signatures.specs.Reads.{under}
use Rattle.ac_resolve_signatures.proofs.Lookups.{keep_there, keep_put}
use Rattle.ac_resolve_signatures.proofs.outside.keep_size.Goals as goal

pub returns-in-Some : goal.returns-in-Some
returns-in-Some c = λ t. keep_there (under c.args.sizes.now) c.args.word.now t c.args.size (ap is_some (sym c.size_under.ensures ∙ c.in-Some.is))

pub returns-in_ok-put_size-in-None : goal.returns-in_ok-put_size-in-None
returns-in_ok-put_size-in-None c = λ t.
    ap (λ f. f t) c.in_ok-put_size-in-None.ensures ∙ keep_put (under c.args.sizes.now) c.args.word.now t c.args.size (ap is_some (sym c.size_under.ensures ∙ c.in-None.is))
