use Rattle.std.proofs.Common.{◌&&◌, ◌∙◌, sym, ap, ap₂, map}
use Rattle.std.specs.List.{list_all}
use Rattle.ac_types.specs.Sigs.{Typed_name}
use Rattle.ac_types.specs.ReadTypes.{typed_of}
use Rattle.ac_terms.specs.Parts.{OfType}
use Rattle.ac_terms.specs.Read.{import_of_code}
use Rattle.ac_terms_renumber.proofs.FormLaws.{import_parts}
use Rattle.ac_terms_renumber.proofs.defs.import_passes.Goals as goal

pub returns : goal.returns
returns g c =
    let p = g.T.Test.passes c.args.test.now in
    ap₂ (λ a b. a && b) c.sig_passes.ensures (c.typed_pass.ensures ∙ ap (λ xs. list_all (λ (t : Typed_name). p (OfType t.ty)) (map typed_of xs)) c.as_slice.ensures)
    ∙ sym (import_parts p (import_of_code c.args.i.now))
