use Rattle.std.proofs.Common.{◌≡◌, sym, ap, ◌∙◌, Bool, true, false, ◌&&◌, []}
use Rattle.ac_types.specs.ReadTypes.{typ_of}
use Rattle.ac_terms.specs.Terms.{PValue}
use Rattle.ac_terms.specs.Read.{environment_of, home_of, expr_of, value_of}
use Rattle.ac_terms.specs.declared.term.Term.{Term}
use Rattle.ac_rules.specs.Plain.{may_travel}
use Rattle.ac_rules.specs.Views.{Coloured}
use Rattle.ac_rules.specs.Typing.{holds}
use Rattle.ac_check.specs.inner.Captured.{captured_hold, travels_as}
use Rattle.ac_check.proofs.HoldLaws.{carried, function_holds, other_counts}
use Rattle.ac_check.proofs.ValueForms.{fun_form}
use Rattle.ac_check.proofs.holding.+hold.Goals as goal

pub all_hold-returns-then-vs-tys : goal.all_hold-returns-then-vs-tys
all_hold-returns-then-vs-tys t c = record { heads = c.requires.heads; answer = sym (other_counts (environment_of c.args.env.now) c.args.vs.now c.args.tys.now (λ e. c.if-vs-tys.true e)) }

pub holds-returns-then-branch : goal.holds-returns-then-branch
holds-returns-then-branch t c =
    let E = environment_of c.args.env.now in
    let h = home_of c.in-Fun.home in
    let l = c.deref-then-branch.result.now in
    let T = typ_of c.args.ty.now in
    let travels : may_travel E h (expr_of l) T ≡ true =
    ap (λ (u : Term). may_travel E h (expr_of u) T) (c.deref-then-branch.ensures ∙ sym c.deref-in-Fun.ensures)
    ∙ ap (travels_as E h [] (expr_of c.deref-in-Fun.result.now)) (sym c.in_ok-at.ensures.head) ∙ sym c.in_ok-may_travel_as-in-Fun.ensures ∙ c.if-branch.true in
    record {
      heads = c.captured_hold.ensures.heads;
      answer =
          carried c.captured_hold.result (captured_hold E (expr_of l)) (holds Coloured false E (value_of c.args.v.now) T)
          (ap (λ (b : Bool). b && captured_hold E (expr_of l)) (sym travels) ∙ sym (function_holds E h l T)
          ∙ ap (λ (w : PValue). holds Coloured false E w T) (sym (fun_form _ _ _ l c.in-Fun.is c.deref-then-branch.ensures)))
          c.captured_hold.ensures.answer;
    }

pub holds-returns-else-branch : goal.holds-returns-else-branch
holds-returns-else-branch t c =
    let E = environment_of c.args.env.now in
    let h = home_of c.in-Fun.home in
    let l = c.deref-in-Fun.result.now in
    let T = typ_of c.args.ty.now in
    let stays : may_travel E h (expr_of l) T ≡ false = ap (travels_as E h [] (expr_of l)) (sym c.in_ok-at.ensures.head) ∙ sym c.in_ok-may_travel_as-in-Fun.ensures ∙ c.if-branch.false in
    record {
      heads = c.head.ensures.heads;
      answer =
          sym (ap (λ (w : PValue). holds Coloured false E w T) (fun_form _ _ _ l c.in-Fun.is c.deref-in-Fun.ensures) ∙ function_holds E h l T
          ∙ ap (λ (b : Bool). b && captured_hold E (expr_of l)) stays);
    }
