use Rattle.std.proofs.Common.{◌≡◌, ◌<◌, sym, ap, ◌∙◌, subst, arith, rules, length, List, true, Option, Some}
use Rattle.std.specs.Prelude.{IfOk, option_map}
use Rattle.ac_types.specs.Types.{Typ, TStr, TExn, same}
use Rattle.ac_types.specs.ReadTypes.{typ_of}
use Rattle.ac_types.specs.declared.ty.Ty.TheVariants as ty
use Rattle.ac_types.proofs.SizeLaws.{type_laws}
use Rattle.ac_terms.specs.Terms.{Pattern, PCons, PExnOf}
use Rattle.ac_types.specs.ReadNumbers.{texted_number}
use Rattle.ac_terms.specs.Read.{home_of, pattern_of}
use Rattle.ac_rules.specs.Typing.{variables_joined}
use Rattle.ac_check_views.specs.Sites.{entries_of}
use Rattle.ac_check_terms.specs.inner.Parts.{newest_first}
use Rattle.ac_check_terms.proofs.PatternLaws.{vars, form_laws, other_lengths, pattern_some, pattern_none, cons_none, cons_some, text_some}
use Rattle.ac_check_terms.proofs.patterns.+patterns.Goals as goal

pub all_variables-returns-then-pats-tys : goal.all_variables-returns-then-pats-tys
all_variables-returns-then-pats-tys t c =
    sym (ap (variables_joined (Some (newest_first c.args.before))) (other_lengths (entries_of c.args.site.now) (home_of c.args.site.now.home) c.args.pats.now c.args.tys.now (λ e. c.if-pats-tys.true e)))

pub all_variables-loop-i-preserved : goal.all_variables-loop-i-preserved
all_variables-loop-i-preserved t c =
    let k : c.loop-i.i < length c.args.tys.now = omega arith in
    record {
      lengths = c.loop-i.invariant.lengths;
      left =
          pattern_some (entries_of c.args.site.now) (home_of c.args.site.now.home) c.args.pats.now c.args.tys.now c.loop-i.i _ _ c.loop-i-test.true k c.index-pats-i.is c.index-tys-i.is
          _ c.loop-i.found c.loop-i.invariant.left c.in-Some.more (ap (option_map newest_first) (sym c.in-Some.is) ∙ c.in_ok-more.ensures);
    }

pub all_variables-returns-in_default : goal.all_variables-returns-in_default
all_variables-returns-in_default t c =
    let k : c.loop-i.i < length c.args.tys.now = omega arith in
    sym (pattern_none (entries_of c.args.site.now) (home_of c.args.site.now.home) c.args.pats.now c.args.tys.now c.loop-i.i _ _ c.loop-i-test.true k c.index-pats-i.is c.index-tys-i.is
    _ c.loop-i.found c.loop-i.invariant.left (ap (option_map newest_first) (sym c.in_default.is) ∙ c.in_ok-more.ensures))

pub variables-returns-in_default-2 : goal.variables-returns-in_default-2
variables-returns-in_default-2 t c =
    let is : pattern_of c.args.pat.now ≡ PCons (pattern_of c.deref.result.now) (pattern_of c.in-Cons.tail) = grind (arith, form_laws) in
    cons_none (entries_of c.args.site.now) (home_of c.args.site.now.home) (pattern_of c.deref.result.now) (pattern_of c.in-Cons.tail) (typ_of c.args.ty.now) _ (newest_first c.args.before)
    c.in-Some-list_item.ensures (ap (option_map newest_first) (sym c.in_default-2.is) ∙ c.in_ok-found-in-Cons.ensures)
    ∙ ap (λ (p : Pattern). variables_joined (Some (newest_first c.args.before)) (vars (entries_of c.args.site.now) (home_of c.args.site.now.home) p (typ_of c.args.ty.now))) (sym is)

pub variables-returns-in-Some-2 : goal.variables-returns-in-Some-2
variables-returns-in-Some-2 t c =
    let is : pattern_of c.args.pat.now ≡ PCons (pattern_of c.deref.result.now) (pattern_of c.deref-in-Cons.result.now) = grind (arith, form_laws) in
    subst (λ (o : Option (List Typ)). IfOk c.variables-in-Cons.result (λ r. option_map newest_first r ≡ o))
    (cons_some (entries_of c.args.site.now) (home_of c.args.site.now.home) (pattern_of c.deref.result.now) (pattern_of c.deref-in-Cons.result.now) (typ_of c.args.ty.now) _
    (newest_first c.args.before) (newest_first c.in-Some-2.found) c.in-Some-list_item.ensures (ap (option_map newest_first) (sym c.in-Some-2.is) ∙ c.in_ok-found-in-Cons.ensures)
    ∙ ap (λ (p : Pattern). variables_joined (Some (newest_first c.args.before)) (vars (entries_of c.args.site.now) (home_of c.args.site.now.home) p (typ_of c.args.ty.now))) (sym is))
    c.variables-in-Cons.ensures

pub variables-returns-else-not-is_base : goal.variables-returns-else-not-is_base
variables-returns-else-not-is_base t c =
    let is : pattern_of c.args.pat.now ≡ PExnOf (texted_number c.in-ExnOf.field-0) (pattern_of c.deref-in-ExnOf.result.now) = grind (arith, form_laws) in
    let s : typ_of ty.Str ≡ TStr = grind (arith, type_laws) in
    let e : same TExn (typ_of c.args.ty.now) ≡ true = search rules in
    subst (λ (o : Option (List Typ)). IfOk c.variables-found.result (λ r. option_map newest_first r ≡ o))
    (text_some (entries_of c.args.site.now) (home_of c.args.site.now.home) c.in-ExnOf.field-0 (pattern_of c.deref-in-ExnOf.result.now) (typ_of c.args.ty.now) (typ_of ty.Str)
    (newest_first c.args.before) s e
    ∙ ap (λ (p : Pattern). variables_joined (Some (newest_first c.args.before)) (vars (entries_of c.args.site.now) (home_of c.args.site.now.home) p (typ_of c.args.ty.now))) (sym is))
    c.variables-found.ensures
