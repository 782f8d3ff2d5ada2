use Rattle.std.proofs.Common.{◌≡◌, sym, ◌∙◌, not, rules, tests}
use Rattle.std.specs.Prelude.{position}
use Rattle.std.proofs.lemmas.Iterator.{YieldsList-from_slice}
use Rattle.std.proofs.lemmas.Iterator.Search.{position_from_yields_List}
use Rattle.ac_types.specs.ReadTypes.{sig_type_of, sig_of}
use Rattle.ac_types.specs.declared.sig.SigType.{SigType}
use Rattle.ac_terms.proofs.Places.{first_failing-map}
use Rattle.ac_rules.specs.Links.{has_type_spec}
use Rattle.ac_link.proofs.signature.missing_type.Goals as goal

pub returns : goal.returns
returns c =
    let found : c.position.result ≡ position (λ (x : SigType). not (has_type_spec c.args.exact (sig_of c.args.found.now) (sig_type_of x))) c.args.wanted.now.types =
    position_from_yields_List (λ (x : SigType). not (has_type_spec c.args.exact (sig_of c.args.found.now) (sig_type_of x))) _ _ c.position.result c.position.ensures.ran (YieldsList-from_slice c.args.wanted.now.types cc) (λ x b q k. search (rules, tests)) in
    found ∙ sym (first_failing-map sig_type_of (has_type_spec c.args.exact (sig_of c.args.found.now)) c.args.wanted.now.types)
