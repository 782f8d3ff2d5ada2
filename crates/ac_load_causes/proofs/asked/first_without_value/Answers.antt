use Rattle.std.proofs.Common.{◌≡◌, sym, ◌∙◌, not, map, rules, tests}
use Rattle.std.specs.Prelude.{position}
use Rattle.std.proofs.lemmas.Iterator.{YieldsList-from_slice}
use Rattle.std.proofs.lemmas.Iterator.Search.{position_from_yields_List}
use Rattle.ac_terms.specs.declared.def.Field.{Field}
use Rattle.ac_terms.specs.Read.{field_of}
use Rattle.ac_terms.proofs.Places.{first_failing-map}
use Rattle.ac_load_causes.specs.inner.Asked.{has_value}
use Rattle.ac_load_causes.proofs.asked.first_without_value.Goals as goal

pub returns : goal.returns
returns c =
    let found : c.position.result ≡ position (λ (x : Field). not (has_value (field_of x))) c.args.fields.now =
    position_from_yields_List (λ (x : Field). not (has_value (field_of x))) _ _ c.position.result c.position.ensures.ran (YieldsList-from_slice c.args.fields.now c.iter.ensures.rest) (λ x b q k. search (rules, tests)) in
    found ∙ sym (first_failing-map field_of has_value c.args.fields.now)
