-- The values of fields stay as the definitions grow.
use Rattle.std.proofs.Common.{◌≡◌, ℕ, zero, suc, false, ◌<◌, ◌≤◌, length, Option, Some, None, refl, ap, ap₂, ◌∙◌, arith, ltb-true}
use Rattle.std.specs.Prelude.{nat_lt, option_map}
use Rattle.ac_types.specs.Types.{Typ, TStr, Typs}
use Rattle.ac_types.proofs.FirstLaws.{given_some}
use Rattle.ac_terms.specs.Terms.{In, Expr, ExnOf, Tuple, Present, Cons, Own, Ref, Exprs, no_exprs, expr}
use Rattle.ac_terms.specs.Defs.{Environment}
use Rattle.ac_rules.specs.Views.{Coloured, view}
use Rattle.ac_rules.specs.Typing.{Scope, of_field, HasType, types_of}
use Rattle.ac_rules.proofs.Rules.{rule-ExnOf, rule-Tuple, rule-expr, rule-Present, rule-Cons, rule-Ref}
use Rattle.ac_rules.specs.Growth.{Widening}
use Rattle.ac_meaning.specs.References.{own_field, target}
use Rattle.ac_meaning.specs.BareTerms.{BareValue, WTuple, WCons, WPresent, bare_value', bare_term, bare_all}
use Rattle.ac_meaning.proofs.Results.{Pure, Got, and_then}
use Rattle.ac_meaning.proofs.Coherences.{is_field, is_sound}
use Rattle.ac_meaning.proofs.GrowthFields.{target_same, target_there, field_there}
use Rattle.ac_meaning.proofs.BareEval.{with_text, ref_by, worth, worth_all, worth_field, opening}

module _ (E F : Environment) (g : Widening E F) where
  -- fields of the entries that are there have the same values
  module _ (p q : ℕ → ℕ → Pure BareValue) (same : (j f : ℕ) → j < length E → p j f ≡ q j f) where
    ref_same : (o : Option (ℕ × ℕ)) → ((t : ℕ × ℕ) → o ≡ Some t → t.0 < length E) → ref_by p o ≡ ref_by q o
    ref_same None h = refl
    ref_same (Some t) h = same t.0 t.1 (h t refl)

    module _ (j : ℕ) (lt : j < length E) where
      mutual
        worth_same : (e : Expr) (S : Scope) (T : Typ) → S.refs ≤ length E → HasType Coloured E S e T → worth F p (In j) (bare_term (In j) e) ≡ worth E q (In j) (bare_term (In j) e)
        worth_same (ExnOf n e) S T le h = ap (λ w. and_then w (with_text n)) (worth_same e S TStr le (rule-ExnOf Coloured E S n e T h).1)
        worth_same (Tuple es) S T le h = let r = rule-Tuple Coloured E S es T h in ap (λ w. and_then w (λ vs. Got (WTuple vs))) (all_worth_same es S r.0 le r.1)
        worth_same (Present e) S T le h = let r = rule-Present Coloured E S e T h in ap (λ w. and_then w (λ v. Got (WPresent v))) (worth_same e S r.0 le r.1)
        worth_same (Cons a b) S T le h =
            let r = rule-Cons Coloured E S a b T h in
            ap₂ (λ u w. and_then u (λ v. and_then w (λ x. Got (WCons v x)))) (worth_same a S r.1.0 le r.1.1) (worth_same b S T le r.0)
        worth_same (Own f) S T le h = same j f lt
        worth_same (Ref i x) S T le h =
            let r = rule-Ref Coloured E S i x T h in
            let below : i < S.refs = ltb-true i S.refs (given_some (nat_lt i S.refs) _ r.1).0 in
            let there : i < length E = omega (arith, below, le) in
            ap (ref_by p) (target_same E F g i x there) ∙ ref_same (target E i x) (λ t e. target_there E F g i x t there e)
        worth_same _ S T le h = refl

        all_worth_same : (es : Exprs) (S : Scope) (Ts : Typs) → S.refs ≤ length E → types_of Coloured false E S es ≡ Some Ts → worth_all F p (In j) (bare_all (In j) es) ≡ worth_all E q (In j) (bare_all (In j) es)
        all_worth_same no_exprs S Ts le h = refl
        all_worth_same (expr e es) S Ts le h =
            let r = rule-expr Coloured E S e es Ts h in
            ap₂ (λ u w. and_then u (λ v. and_then w (λ vs. Got (bare_value' v vs)))) (worth_same e S r.0 le r.2) (all_worth_same es S r.1 le r.3)

  pub opening_same : (s j f : ℕ) → j < length E → opening F s j f ≡ opening E s j f
  opening_same zero j f lt = refl
  opening_same (suc s) j f lt = ap (λ o. worth_field F (opening F s) j (option_map (bare_term (In j)) o)) (field_there E F g j f lt) ∙ by (opening_same s) (own_field E (In j) f) refl
    where
      by : ((i h : ℕ) → i < length E → opening F s i h ≡ opening E s i h) → (o : Option Expr) → own_field E (In j) f ≡ o → worth_field F (opening F s) j (option_map (bare_term (In j)) o) ≡ worth_field E (opening E s) j (option_map (bare_term (In j)) o)
      by same None e = refl
      by same (Some t) e =
          let x = is_field E g.before j f t e in
          worth_same (opening F s) (opening E s) same j lt t (of_field j f) (view Coloured E (In j) x.field.ty) (omega (arith, lt)) (is_sound E g.before j f t x).1
