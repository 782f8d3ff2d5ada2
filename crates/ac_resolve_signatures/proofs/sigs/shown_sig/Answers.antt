use Rattle.std.proofs.Common.{◌∙◌, ap, List, map}
use Rattle.ac_resolve_signatures.specs.declared.named.Named.{Named}
use Rattle.ac_resolve_signatures.specs.SigFlaws.{is_listed}
use Rattle.ac_resolve_signatures.specs.Reads.{named}
use Rattle.ac_resolve_signatures.proofs.Lookups.{members_as}
use Rattle.ac_resolve_signatures.proofs.sigs.shown_sig.Goals as goal

pub returns-clause-outside : goal.returns-clause-outside
returns-clause-outside c =
    members_as _ _ c.in_ok-walked.ensures.types
    (λ x. c.in_ok-values.ensures x ∙ ap (λ (ns : List Named). is_listed (map named ns) x) c.as_slice-3.ensures.value ∙ ap (λ ns. is_listed ns x) c.in_ok-names.ensures)
