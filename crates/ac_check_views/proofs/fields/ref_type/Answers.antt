use Rattle.std.proofs.Common.{◌≡◌, sym, ap, ◌∙◌, subst, arith, rules, [], true, false, Bor, Option, Some}
use Rattle.std.specs.Prelude.{IfOk, nat_lt, option_map}
use Rattle.std.specs.Option.{option_copied}
use Rattle.std.proofs.lemmas.Bool.Decides.{nat_tests}
use Rattle.ac_types.specs.Types.{Typ, TAbs, with_mine, is_small}
use Rattle.ac_types.specs.ReadTypes.{typ_of}
use Rattle.ac_types.specs.declared.ty.Ty.{Ty}
use Rattle.ac_terms.specs.Read.{home_of, entry_of, name_of_code}
use Rattle.ac_terms.proofs.EnvLaws.{entry_get}
use Rattle.ac_rules.specs.Views.{Coloured, view, opened_at_home}
use Rattle.ac_rules.specs.Typing.{ref_type, kept_in}
use Rattle.ac_check_views.specs.Sites.{entries_of, scope_at}
use Rattle.ac_check_views.proofs.SmallLaws.{not_shown}
use Rattle.ac_check_views.proofs.RefLaws.{ref_there}
use Rattle.ac_check_views.proofs.fields.ref_type.Goals as goal

pub returns-then-not-small : goal.returns-then-not-small
returns-then-not-small c =
    let E = entries_of c.args.site.now in
    let S = scope_at c.args.site.now [] in
    let home = home_of c.args.site.now.home in
    let T = typ_of c.in-Some-type_shown.ty.now in
    let n = c.in-Some-name.name.0 in
    let lt : nat_lt c.args.j c.args.site.now.refs ≡ true = grind (arith, nat_tests) in
    let there : ref_type E S c.args.j c.args.x.now ≡ Some (with_mine (TAbs n) T) =
    ref_there E S c.args.j c.args.x.now (entry_of c.in-Some.entry.now) n T
    (entry_get c.args.site.now.env.now c.args.j ∙ ap (option_map entry_of) (sym c.entry.ensures ∙ ap option_copied c.in-Some.is))
    (ap (option_map name_of_code) c.in-Some-name.is)
    (sym c.type_shown.ensures ∙ ap (λ (o : Option (Bor Ty)). option_map typ_of (option_copied o)) c.in-Some-type_shown.is)
    lt in
    let e : is_small T ≡ false = search rules in
    sym (ap (λ (o : Option Typ). kept_in Coloured (option_map (view Coloured E home) o)) there ∙ not_shown (opened_at_home E home) n T e)

pub returns : goal.returns
returns c =
    let E = entries_of c.args.site.now in
    let S = scope_at c.args.site.now [] in
    let home = home_of c.args.site.now.home in
    let T = typ_of c.in-Some-type_shown.ty.now in
    let n = c.in-Some-name.name.0 in
    let lt : nat_lt c.args.j c.args.site.now.refs ≡ true = grind (arith, nat_tests) in
    let there : ref_type E S c.args.j c.args.x.now ≡ Some (with_mine (TAbs n) T) =
    ref_there E S c.args.j c.args.x.now (entry_of c.in-Some.entry.now) n T
    (entry_get c.args.site.now.env.now c.args.j ∙ ap (option_map entry_of) (sym c.entry.ensures ∙ ap option_copied c.in-Some.is))
    (ap (option_map name_of_code) c.in-Some-name.is)
    (sym c.type_shown.ensures ∙ ap (λ (o : Option (Bor Ty)). option_map typ_of (option_copied o)) c.in-Some-type_shown.is)
    lt in
    subst (λ (z : Option Typ). IfOk c.viewed-seen.result (λ o. option_map typ_of o ≡ z))
    (ap (λ (U : Typ). kept_in Coloured (Some (view Coloured E home U))) c.in_ok-ty.ensures ∙ sym (ap (λ (o : Option Typ). kept_in Coloured (option_map (view Coloured E home) o)) there))
    c.viewed-seen.ensures
