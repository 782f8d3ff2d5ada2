use Rattle.std.proofs.Common.{sym, ap, ◌∙◌, map}
use Rattle.ac_types.specs.ReadTypes.{typed_of}
use Rattle.ac_terms.specs.Read.{module_of_code, field_of}
use Rattle.ac_closure.specs.inner.Chosen.{with_types, with_parts}
use Rattle.ac_closure.specs.inner.Forms.{types_beside, field_parts}
use Rattle.ac_closure.specs.inner.Names.{entry_named}
use Rattle.ac_closure.proofs.FormLaws.{module_parts}
use Rattle.ac_closure.proofs.forms.add_module.Goals as goal

pub returns : goal.returns
returns c =
    let find = entry_named c.args.names.now in
    let m = module_of_code c.args.m.now in
    c.add_fields.ensures ∙ ap (λ fs. with_parts find c.add_typed.new.set (field_parts (map field_of fs))) c.as_slice-2.ensures
    ∙ ap (λ s. with_parts find s (field_parts m.fields))
    (c.add_typed.ensures ∙ ap (λ xs. with_types find c.add_sig.new.set (types_beside (map typed_of xs))) c.as_slice.ensures ∙ ap (λ s. with_types find s (types_beside m.types)) c.add_sig.ensures)
    ∙ sym (module_parts find c.args.set.now m)
