use Rattle.std.proofs.Common.{◌≡◌, ◌∙◌, ap, refl, sym, Option, Some, None}
use Rattle.std.specs.Prelude.{is_some, option_map, option_and_then}
use Rattle.std.specs.Option.{option_copied}
use Rattle.ac_types.specs.Types.{Bytes}
use Rattle.ac_types.specs.declared.text.Name.{Name}
use Rattle.ac_terms.specs.Defs.{Entry}
use Rattle.ac_terms.specs.Read.{environment_of, entry_of, name_of_code}
use Rattle.ac_terms.proofs.EnvLaws.{entry_get}
use Rattle.ac_resolve_scopes.specs.Standard.{beside_name}
use Rattle.ac_resolve_names.specs.Fronts.{front_of}
use Rattle.ac_resolve_names.proofs.FrontLaws.{kept_name, called_there}
use Rattle.ac_resolve_names.proofs.front.Front.name_of.Goals as goal

pub returns-in_err-entry-clause-there : goal.returns-in_err-entry-clause-there
unfolding front_of
returns-in_err-entry-clause-there c =
    ap is_some c.from_residual-in_err-entry.ensures
    ∙ called_there (environment_of c.args.self.now.env) c.args.called.now c.args.self.now.externals c.in_ok-number.field-0.now None c.args.self.now.called (sym c.find.ensures ∙ ap option_copied c.in_ok-number.was)
    (entry_get c.args.self.now.env c.in_ok-number.field-0.now ∙ ap (option_map entry_of) (sym c.entry.ensures ∙ ap option_copied c.in_err-entry.was))

pub returns-clause-name : goal.returns-clause-name
unfolding front_of
returns-clause-name c =
    sym (kept_name (environment_of c.args.self.now.env) (beside_name c.args.called.now c.args.self.now.externals) c.in_ok-number.field-0.now (option_map entry_of (option_copied c.entry.result)) (sym c.find.ensures ∙ ap option_copied c.in_ok-number.was)
    (entry_get c.args.self.now.env c.in_ok-number.field-0.now ∙ ap (option_map entry_of) (sym c.entry.ensures))
    ∙ ap (λ r. option_and_then (λ (e : Entry). e.name) (option_map entry_of (option_copied r))) c.in_ok-entry.was)

is_mapped : (o : Option Name) → is_some (option_map name_of_code o) ≡ is_some o
is_mapped None = refl
is_mapped (Some n) = refl

pub returns-clause-there : goal.returns-clause-there
unfolding front_of
returns-clause-there c =
    sym (is_mapped c.in_ok-entry.field-0.now.name) ∙ ap (λ (o : Option Bytes). is_some o) (sym (ap (λ r. option_and_then (λ (e : Entry). e.name) (option_map entry_of (option_copied r))) c.in_ok-entry.was))
    ∙ called_there (environment_of c.args.self.now.env) c.args.called.now c.args.self.now.externals c.in_ok-number.field-0.now (option_map entry_of (option_copied c.entry.result)) c.args.self.now.called (sym c.find.ensures ∙ ap option_copied c.in_ok-number.was)
    (entry_get c.args.self.now.env c.in_ok-number.field-0.now ∙ ap (option_map entry_of) (sym c.entry.ensures))
