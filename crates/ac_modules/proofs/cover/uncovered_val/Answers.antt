use Rattle.std.proofs.Common.{◌≡◌, sym, ◌∙◌, not, rules, tests}
use Rattle.std.specs.Prelude.{position}
use Rattle.std.proofs.lemmas.Iterator.{YieldsList-from_slice}
use Rattle.std.proofs.lemmas.Iterator.Search.{position_from_yields_List}
use Rattle.ac_types.specs.ReadTypes.{typed_of}
use Rattle.ac_types.specs.declared.sig.TyField.{TyField}
use Rattle.ac_terms.specs.Read.{module_of_code}
use Rattle.ac_rules.specs.Modules.{covers_val}
use Rattle.ac_terms.proofs.Places.{first_failing-map}
use Rattle.ac_modules.proofs.cover.uncovered_val.Goals as goal

pub returns : goal.returns
returns c =
    let found : c.position.result ≡ position (λ (x : TyField). not (covers_val (module_of_code c.args.m.now) (typed_of x))) c.args.m.now.sig.vals =
    position_from_yields_List (λ (x : TyField). not (covers_val (module_of_code c.args.m.now) (typed_of x))) _ _ c.position.result c.position.ensures.ran (YieldsList-from_slice c.args.m.now.sig.vals cc) (λ x b q k. search (rules, tests)) in
    found ∙ sym (first_failing-map typed_of (covers_val (module_of_code c.args.m.now)) c.args.m.now.sig.vals)
