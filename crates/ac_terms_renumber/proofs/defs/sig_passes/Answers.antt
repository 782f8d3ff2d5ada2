use Rattle.std.proofs.Common.{◌&&◌, ◌∙◌, sym, ap, ap₂, true, map}
use Rattle.std.specs.List.{list_all}
use Rattle.std.specs.Option.{option_map_or}
use Rattle.ac_types.specs.Types.{Typ}
use Rattle.ac_types.specs.Sigs.{Typed_name, Sig_type}
use Rattle.ac_types.specs.ReadTypes.{typed_of, sig_type_of, sig_of}
use Rattle.ac_terms.specs.Parts.{OfType}
use Rattle.ac_terms_renumber.proofs.FormLaws.{sig_parts}
use Rattle.ac_terms_renumber.proofs.defs.sig_passes.Goals as goal

pub returns : goal.returns
returns g c =
    let p = g.T.Test.passes c.args.test.now in
    ap₂ (λ a b. a && b)
    (c.manifest_pass.ensures ∙ ap (λ xs. list_all (λ (t : Sig_type). option_map_or (λ (U : Typ). p (OfType U)) t.manifest true) (map sig_type_of xs)) c.as_slice.ensures)
    (c.typed_pass.ensures ∙ ap (λ xs. list_all (λ (t : Typed_name). p (OfType t.ty)) (map typed_of xs)) c.as_slice-2.ensures)
    ∙ sym (sig_parts p (sig_of c.args.sig.now))
