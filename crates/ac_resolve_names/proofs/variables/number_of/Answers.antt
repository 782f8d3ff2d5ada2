use Rattle.std.proofs.Common.{◌∙◌, ◌<◌, sym, rules}
use Rattle.ac_resolve_names.specs.inner.VariableNames.{names_in}
use Rattle.ac_resolve_names.proofs.Scoping.{number_fits, no_number}
use Rattle.ac_resolve_names.proofs.variables.number_of.Goals as goal

pub overflow_cast-result : goal.overflow_cast-result
overflow_cast-result c =
    let f : c.in_ok-number.number < 65536 = (number_fits c.args.word.now (names_in c.args.variables.now) c.in_ok-number.number c.requires (sym c.in_ok-number.was ∙ c.binders_to.ensures)).0 in
    search rules

pub returns : goal.returns
returns c = sym (number_fits c.args.word.now (names_in c.args.variables.now) c.in_ok-number.number c.requires (sym c.in_ok-number.was ∙ c.binders_to.ensures)).1

pub returns-in_err-number : goal.returns-in_err-number
returns-in_err-number c = c.from_residual.ensures ∙ sym (no_number c.args.word.now (names_in c.args.variables.now) (sym c.in_err-number.was ∙ c.binders_to.ensures))
