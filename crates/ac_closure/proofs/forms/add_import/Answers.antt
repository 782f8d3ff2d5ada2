use Rattle.std.proofs.Common.{sym, ap, ◌∙◌, map}
use Rattle.ac_types.specs.ReadTypes.{typed_of}
use Rattle.ac_terms.specs.Read.{import_of_code}
use Rattle.ac_closure.specs.inner.Chosen.{with_types}
use Rattle.ac_closure.specs.inner.Forms.{types_beside}
use Rattle.ac_closure.specs.inner.Names.{entry_named}
use Rattle.ac_closure.proofs.FormLaws.{import_parts}
use Rattle.ac_closure.proofs.forms.add_import.Goals as goal

pub returns : goal.returns
returns c =
    let find = entry_named c.args.names.now in
    let i = import_of_code c.args.i.now in
    c.add_typed.ensures ∙ ap (λ xs. with_types find c.add_sig.new.set (types_beside (map typed_of xs))) c.as_slice.ensures ∙ ap (λ s. with_types find s (types_beside i.like)) c.add_sig.ensures
    ∙ sym (import_parts find c.args.set.now i)
