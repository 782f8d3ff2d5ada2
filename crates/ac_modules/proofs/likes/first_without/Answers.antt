use Rattle.std.proofs.Common.{◌≡◌, sym, ◌∙◌, not, map, rules, tests}
use Rattle.std.specs.Prelude.{position}
use Rattle.std.proofs.lemmas.Iterator.{YieldsList-from_slice}
use Rattle.std.proofs.lemmas.Iterator.Search.{position_from_yields_List}
use Rattle.ac_types.specs.ReadTypes.{typed_of, sig_type_of}
use Rattle.ac_types.specs.declared.sig.SigType.{SigType}
use Rattle.ac_modules.specs.inner.Asked.{has_like}
use Rattle.ac_terms.proofs.Places.{first_failing-map}
use Rattle.ac_modules.proofs.likes.first_without.Goals as goal

pub returns : goal.returns
returns c =
    let found : c.position.result ≡ position (λ (x : SigType). not (has_like (map typed_of c.args.like.now) (sig_type_of x))) c.args.types.now =
    position_from_yields_List (λ (x : SigType). not (has_like (map typed_of c.args.like.now) (sig_type_of x))) _ _ c.position.result c.position.ensures.ran (YieldsList-from_slice c.args.types.now c.iter.ensures.rest) (λ x b q k. search (rules, tests)) in
    found ∙ sym (first_failing-map sig_type_of (has_like (map typed_of c.args.like.now)) c.args.types.now)
