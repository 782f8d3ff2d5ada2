use Rattle.std.proofs.Common.{◌≡◌, ◌∙◌, ap, sym, subst, Option}
use Rattle.std.specs.Prelude.{IfOk, option_map}
use Rattle.std.specs.Option.{option_copied}
use Rattle.ac_types.specs.Types.{Typ}
use Rattle.ac_types.specs.ReadTypes.{typ_of}
use Rattle.ac_terms.specs.Read.{environment_of, entry_of}
use Rattle.ac_terms.proofs.EnvLaws.{entry_get}
use Rattle.ac_resolve_names.specs.Entries.{keeps_name}
use Rattle.ac_resolve_names.specs.Fronts.{outer_of}
use Rattle.ac_resolve_names.proofs.FrontLaws.{all_at}
use Rattle.ac_resolve_names.proofs.OuterLaws.{dotted_entry}
use Rattle.ac_resolve_names.proofs.outer.Outer.dotted_type.Goals as goal

pub type_outside-requires : goal.type_outside-requires
type_outside-requires c =
    all_at keeps_name (environment_of c.args.self.now.env.now) c.in-Some.number.now (entry_of c.in-Some-entry.entry.now) c.args.self.now.named
    (entry_get c.args.self.now.env.now c.in-Some.number.now ∙ ap (option_map entry_of) (sym c.entry.ensures ∙ ap option_copied c.in-Some-entry.is))

pub returns-in-Some-entry : goal.returns-in-Some-entry
unfolding outer_of
returns-in-Some-entry c =
    subst (λ (p : Option Typ). IfOk c.type_outside.result (λ o. option_map typ_of o ≡ p))
    (sym (dotted_entry (outer_of c.args.self.now) c.args.m.now c.args.t.now c.in-Some.number.now (entry_of c.in-Some-entry.entry.now) (sym c.is_standard.ensures ∙ c.if-is_standard.false) (sym c.find.ensures ∙ ap option_copied c.in-Some.is)
    (entry_get c.args.self.now.env.now c.in-Some.number.now ∙ ap (option_map entry_of) (sym c.entry.ensures ∙ ap option_copied c.in-Some-entry.is))))
    c.type_outside.ensures
