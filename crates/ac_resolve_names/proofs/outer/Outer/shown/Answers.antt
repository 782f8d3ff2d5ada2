use Rattle.std.proofs.Common.{◌∙◌, ap, sym, Some}
use Rattle.std.specs.Prelude.{option_map}
use Rattle.ac_terms.specs.Terms.{Expr, Ref}
use Rattle.ac_resolve_names.proofs.OuterLaws.{expr_of-Ref}
use Rattle.ac_resolve_names.proofs.outer.Outer.shown.Goals as goal

pub returns-in_ok-name-in-Some : goal.returns-in_ok-name-in-Some
returns-in_ok-name-in-Some c =
    ap (λ (e : Expr). Some e) (expr_of-Ref c.in-Some.number c.in_ok-name-in-Some.name ∙ ap (Ref c.in-Some.number) c.in_ok-name-in-Some.ensures)
    ∙ ap (option_map (λ j. Ref j c.args.x.now)) (sym c.in-Some.is) ∙ c.showing.ensures
