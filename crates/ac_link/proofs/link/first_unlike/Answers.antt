use Rattle.std.proofs.Common.{◌≡◌, sym, ◌∙◌, not, rules, tests}
use Rattle.std.specs.Prelude.{position}
use Rattle.std.proofs.lemmas.Iterator.{YieldsList-from_slice}
use Rattle.std.proofs.lemmas.Iterator.Search.{position_from_yields_List}
use Rattle.ac_types.specs.ReadTypes.{sig_type_of}
use Rattle.ac_types.specs.declared.sig.SigType.{SigType}
use Rattle.ac_terms.specs.Read.{module_of_code, import_of_code}
use Rattle.ac_terms.proofs.Places.{first_failing-map}
use Rattle.ac_rules.specs.Links.{is_like}
use Rattle.ac_link.proofs.link.first_unlike.Goals as goal

pub returns : goal.returns
returns c =
    let test = is_like (module_of_code c.args.m.now) (import_of_code c.args.import.now) in
    let found : c.position.result ≡ position (λ (x : SigType). not (is_like (module_of_code c.args.m.now) (import_of_code c.args.import.now) (sig_type_of x))) c.args.import.now.sig.types =
    position_from_yields_List (λ (x : SigType). not (test (sig_type_of x))) _ _ c.position.result c.position.ensures.ran (YieldsList-from_slice c.args.import.now.sig.types cc) (λ x b q k. search (rules, tests)) in
    found ∙ sym (first_failing-map sig_type_of test c.args.import.now.sig.types)
