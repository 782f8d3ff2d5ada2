use Rattle.std.proofs.Common.{◌≡◌, ◌∙◌, ap, sym, subst, Option}
use Rattle.std.specs.Prelude.{IfOk, option_map}
use Rattle.std.specs.Option.{option_copied}
use Rattle.ac_types.specs.Types.{Typ}
use Rattle.ac_types.specs.ReadTypes.{typ_of, sig_of}
use Rattle.ac_terms.specs.Read.{entry_of, name_of_code}
use Rattle.ac_resolve_names.proofs.OuterLaws.{entry_shows}
use Rattle.ac_resolve_names.proofs.entries.type_outside.Goals as goal

pub returns-in-Some-name : goal.returns-in-Some-name
returns-in-Some-name c =
    subst (λ (p : Option Typ). IfOk c.spec_outside.result (λ o. option_map typ_of o ≡ p))
    (sym (entry_shows (entry_of c.args.entry.now) (sig_of c.in-Some.sig.now) c.in-Some-name.name.0 c.args.t.now (sym c.signature.ensures ∙ ap (λ r. option_map sig_of (option_copied r)) c.in-Some.is) (ap (option_map name_of_code) c.in-Some-name.is)))
    c.spec_outside.ensures
