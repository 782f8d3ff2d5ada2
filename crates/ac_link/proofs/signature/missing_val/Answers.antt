use Rattle.std.proofs.Common.{◌≡◌, sym, ◌∙◌, not, rules, tests}
use Rattle.std.specs.Prelude.{position}
use Rattle.std.proofs.lemmas.Iterator.{YieldsList-from_slice}
use Rattle.std.proofs.lemmas.Iterator.Search.{position_from_yields_List}
use Rattle.ac_types.specs.ReadTypes.{typed_of, sig_of}
use Rattle.ac_types.specs.declared.sig.TyField.{TyField}
use Rattle.ac_terms.proofs.Places.{first_failing-map}
use Rattle.ac_rules.specs.Links.{has_val_spec}
use Rattle.ac_link.proofs.signature.missing_val.Goals as goal

pub returns : goal.returns
returns c =
    let found : c.position.result ≡ position (λ (x : TyField). not (has_val_spec c.args.exact (sig_of c.args.found.now) (typed_of x))) c.args.wanted.now.vals =
    position_from_yields_List (λ (x : TyField). not (has_val_spec c.args.exact (sig_of c.args.found.now) (typed_of x))) _ _ c.position.result c.position.ensures.ran (YieldsList-from_slice c.args.wanted.now.vals cc) (λ x b q k. search (rules, tests)) in
    found ∙ sym (first_failing-map typed_of (has_val_spec c.args.exact (sig_of c.args.found.now)) c.args.wanted.now.vals)
