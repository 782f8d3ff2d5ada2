use Rattle.std.proofs.Common.{◌&&◌, ◌∙◌, sym, ap, ap₂, map}
use Rattle.std.specs.List.{list_all}
use Rattle.ac_types.specs.Sigs.{Typed_name}
use Rattle.ac_types.specs.ReadTypes.{typed_of}
use Rattle.ac_terms.specs.Defs.{Field}
use Rattle.ac_terms.specs.Parts.{OfType, term_parts}
use Rattle.ac_terms.specs.Read.{module_of_code, field_of}
use Rattle.ac_terms_renumber.proofs.FormLaws.{module_parts}
use Rattle.ac_terms_renumber.proofs.defs.module_passes.Goals as goal

pub returns : goal.returns
returns g c =
    let p = g.T.Test.passes c.args.test.now in
    ap₂ (λ a b. a && b)
    (ap₂ (λ a b. a && b) c.sig_passes.ensures (c.typed_pass.ensures ∙ ap (λ xs. list_all (λ (t : Typed_name). p (OfType t.ty)) (map typed_of xs)) c.as_slice.ensures))
    (c.fields_pass.ensures ∙ ap (λ xs. list_all (λ (f : Field). p (OfType f.ty) && list_all p (term_parts f.term)) (map field_of xs)) c.as_slice-2.ensures)
    ∙ sym (module_parts p (module_of_code c.args.m.now))
