use Rattle.std.proofs.Common.{sym, ap, ap₂, ◌∙◌, Bool, true, map}
use Rattle.std.specs.Prelude.{option_map}
use Rattle.ac_types.specs.Partial.{given}
use Rattle.ac_types.specs.ReadTypes.{typ_of}
use Rattle.ac_terms.specs.Read.{environment_of, home_of, expr_of}
use Rattle.ac_rules.specs.Views.{Coloured}
use Rattle.ac_rules.specs.Typing.{Scope, type_of}
use Rattle.ac_check.specs.inner.Captured.{captured_hold}
use Rattle.ac_check.proofs.Strict.{none_given}
use Rattle.ac_check.proofs.HoldLaws.{term_type}
use Rattle.ac_check.proofs.checking.type_of.Goals as goal

pub returns-in-Ok-None : goal.returns-in-Ok-None
returns-in-Ok-None c =
    let E = environment_of c.args.env.now in
    let S : Scope = record { home = home_of c.args.home; own = c.args.own; refs = c.args.refs; vars = map typ_of c.args.ctx.now } in
    let h = captured_hold E (expr_of c.args.t.now) in
    term_type E c.args.t.now S ∙ ap (given h) (sym c.in-Ok-None.ensures ∙ ap (option_map typ_of) c.in-Ok-None.field-0-is) ∙ none_given h

pub returns-in-Ok-true : goal.returns-in-Ok-true
returns-in-Ok-true c =
    let E = environment_of c.args.env.now in
    let S : Scope = record { home = home_of c.args.home; own = c.args.own; refs = c.args.refs; vars = map typ_of c.args.ctx.now } in
    term_type E c.args.t.now S
    ∙ ap₂ given (sym c.in-Ok-true.ensures ∙ c.in-Ok-true.field-0-test) (sym c.in-Ok-Some.ensures ∙ ap (option_map typ_of) c.in-Ok-Some.field-0-is)

pub returns-in-Ok-false : goal.returns-in-Ok-false
returns-in-Ok-false c =
    let E = environment_of c.args.env.now in
    let S : Scope = record { home = home_of c.args.home; own = c.args.own; refs = c.args.refs; vars = map typ_of c.args.ctx.now } in
    term_type E c.args.t.now S
    ∙ ap (λ (b : Bool). given b (type_of Coloured true E S (expr_of c.args.t.now))) (sym c.in-Ok-false.ensures ∙ c.in-Ok-false.field-0-test)
