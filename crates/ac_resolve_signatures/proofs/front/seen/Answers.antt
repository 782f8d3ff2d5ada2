use Rattle.std.proofs.Common.{◌∙◌, ap, List, map}
use Rattle.std.specs.Prelude.{is_some, option_map}
use Rattle.ac_types.specs.Sigs.{named_type, type_under}
use Rattle.ac_types.specs.declared.sig.SigType as code_type
use Rattle.ac_types.specs.declared.sig.TyField as code_value
use Rattle.ac_types.specs.ReadTypes.{typed_of, sig_type_of}
use Rattle.ac_resolve_signatures.specs.EntriesInFront.{size_of_manifest}
use Rattle.ac_resolve_signatures.proofs.Lookups.{members_as}
use Rattle.ac_resolve_signatures.proofs.front.seen.Goals as goal

pub returns : goal.returns
returns c =
    members_as _ _ (λ t. c.in_ok-types.ensures t ∙ ap (λ (ts : List code_type.SigType). option_map size_of_manifest (type_under t (map sig_type_of ts))) c.as_slice.ensures)
    (λ x. c.in_ok-values.ensures x ∙ ap (λ (vs : List code_value.TyField). is_some (named_type x (map typed_of vs))) c.as_slice-2.ensures)
