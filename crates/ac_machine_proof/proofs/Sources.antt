-- The terms that have code: those of coherent definitions, and those that are typed.
use Rattle.std.proofs.Common.{◌≡◌, ℕ, zero, suc, Bool, true, false, List, [], ◌∷◌, Option, Some, None, refl, sym, subst}
use Rattle.std.specs.Prelude.{slice_get, not, nat_le, ◌&&◌}
use Rattle.std.specs.List.{list_all}
use mathlib.Core.Bool.{true≢false}
use Rattle.ac_types.specs.Types.{Typ, TBool, TStr, TExn, Typs}
use Rattle.ac_types.proofs.Same.{both_true}
use Rattle.ac_types.proofs.FirstLaws.{none≢some, some_eq}
use Rattle.ac_types.specs.Exceptions.{has_text}
use Rattle.ac_terms.specs.Terms.{In, Expr, Exn, ExnOf, Tuple, Present, Cons, Lam, Rec, App, Let, If, Seq, Match, Try, Raise, Prim, Marshal, Unmarshal, Val, Evaluated, Bracket, Exprs, no_exprs, expr, Arms, no_arms, arm, PValue, KExn, KTuple, KList, KPresent, KFun, PValues, no_pvalues, pvalue}
use Rattle.ac_terms.specs.Defs.{Environment, Field, AModule}
use Rattle.ac_rules.specs.Views.{Mode}
use Rattle.ac_types.specs.Partial.{also}
use Rattle.ac_rules.specs.Typing.{Scope, HasType, types_of, arm_types, variables, bind_all}
use Rattle.ac_rules.proofs.Rules.{then_some, rule-Exn, rule-ExnOf, rule-Tuple, rule-expr, rule-Present, rule-Cons, rule-Lam, rule-Rec, rule-App, rule-Let, rule-If, rule-Seq, rule-Match, rule-Try, rule-Raise, rule-Prim, rule-Marshal, rule-Unmarshal}
use Rattle.ac_meaning.specs.Laws.{is_source, are_source, arms_are_source}
use Rattle.ac_meaning.proofs.Sources.{left, middle}
use Rattle.ac_terms.specs.Bounds.{is_lower, fits_type, fits_term, fit_terms, fit_arms, fits_value, fit_values}
use Rattle.ac_rules.specs.Coherent.{IsCoherent}
use Rattle.ac_meaning.specs.References.{own_field}
use Rattle.ac_meaning.proofs.Coherences.{is_field}
use Rattle.ac_machine_proof.specs.Source.{IsOfSource, AreSource, AreSourceArms, IsPacked, ArePacked}
use Rattle.ac_machine_proof.proofs.Growing.{SourceField}
use Rattle.ac_machine_proof.proofs.Programs.{Sources}

no_text : (b : Bool) → not b ≡ true → b ≡ false
no_text true e = absurd cc
no_text false e = refl

at_index : {A : Type 0} (test : A → Bool) (xs : List A) (i : ℕ) (x : A) → list_all test xs ≡ true → slice_get xs i ≡ Some x → test x ≡ true
at_index test [] i x h e = absurd (none≢some e)
at_index test (y ∷ xs) zero x h e = subst (λ y. test y ≡ true) (some_eq e) (both_true (test y) _ h).0
at_index test (y ∷ xs) (suc i) x h e = at_index test xs i x (both_true (test y) _ h).1 e

-- a term of the source that has a type has code
module _ (mode : Mode) (E : Environment) where
  also_some : (a : Option Typ) (b : Option Typs) (Ts : Typs) → also a b ≡ Some Ts → (T : Typ) × (Us : Typs) × (a ≡ Some T) × (b ≡ Some Us)
  also_some (Some T) (Some Us) Ts h = (T, Us, refl, refl)
  also_some None b Ts h = absurd (none≢some h)
  also_some (Some T) None Ts h = absurd (none≢some h)

  mutual
    pub typed_source : (e : Expr) (S : Scope) (T : Typ) → is_source e ≡ true → HasType mode E S e T → IsOfSource e
    typed_source (Exn k) S T s h = no_text (has_text k) (both_true (nat_le k 9) _ (rule-Exn mode E S k T h).0).1
    typed_source (ExnOf k e) S T s h = let p = rule-ExnOf mode E S k e T h in (p.0, typed_source e S TStr s p.1)
    typed_source (Tuple es) S T s h = let p = rule-Tuple mode E S es T h in all_typed_source es S p.0 s p.1
    typed_source (Present e) S T s h = let p = rule-Present mode E S e T h in typed_source e S p.0 s p.1
    typed_source (Cons a b) S T s h = let p = rule-Cons mode E S a b T h in let w = both_true (is_source a) _ s in (typed_source a S p.1.0 w.0 p.1.1, typed_source b S T w.1 p.0)
    typed_source (Lam A e) S T s h = let p = rule-Lam mode E S A e T h in typed_source e _ p.1.0 s p.1.1
    typed_source (Rec A B e) S T s h = let p = rule-Rec mode E S A B e T h in typed_source e _ _ s p.2
    typed_source (App f a) S T s h = let p = rule-App mode E S f a T h in let w = both_true (is_source f) _ s in (typed_source f S _ w.0 p.1, typed_source a S p.0 w.1 p.2)
    typed_source (Let A e b) S T s h = let p = rule-Let mode E S A e b T h in let w = both_true (is_source e) _ s in (typed_source e S _ w.0 p.1, typed_source b _ T w.1 p.2)
    typed_source (If c a b) S T s h =
        let p = rule-If mode E S c a b T h in
        let w = both_true (is_source c) _ s in
        let v = both_true (is_source a) _ w.1 in
        (typed_source c S TBool w.0 p.0, typed_source a S T v.0 p.1, typed_source b S T v.1 p.2)
    typed_source (Seq es) S T s h = let p = rule-Seq mode E S es T h in all_typed_source es S p.0 s p.1
    typed_source (Match e arms) S T s h = let p = rule-Match mode E S e arms T h in let w = both_true (is_source e) _ s in (typed_source e S p.0 w.0 p.1, arms_typed_source arms S p.0 p.2.0 w.1 p.2.1)
    typed_source (Try e arms) S T s h = let p = rule-Try mode E S e arms T h in let w = both_true (is_source e) _ s in (typed_source e S T w.0 p.0, arms_typed_source arms S TExn p.1.0 w.1 p.1.1)
    typed_source (Raise A e) S T s h = let p = rule-Raise mode E S A e T h in typed_source e S TExn s p.0
    typed_source (Prim k es) S T s h = let p = rule-Prim mode E S k es T h in all_typed_source es S p.0 s p.1
    typed_source (Marshal A m e) S T s h = let p = rule-Marshal mode E S A m e T h in let w = both_true (is_source m) _ s in (typed_source m S TStr w.0 p.0, typed_source e S _ w.1 p.2)
    typed_source (Unmarshal A e) S T s h = let p = rule-Unmarshal mode E S A e T h in typed_source e S TStr s p.0
    typed_source (Val A v) S T s h = absurd (true≢false (sym s))
    typed_source (Evaluated A v) S T s h = absurd (true≢false (sym s))
    typed_source (Bracket c A e) S T s h = absurd (true≢false (sym s))
    typed_source _ S T s h = tt

    all_typed_source : (es : Exprs) (S : Scope) (Ts : Typs) → are_source es ≡ true → types_of mode false E S es ≡ Some Ts → AreSource es
    all_typed_source no_exprs S Ts s h = tt
    all_typed_source (expr e es) S Ts s h =
        let p = rule-expr mode E S e es Ts h in
        let w = both_true (is_source e) (are_source es) s in
        (typed_source e S p.0 w.0 p.2, all_typed_source es S p.1 w.1 p.3)

    arms_typed_source : (arms : Arms) (S : Scope) (A : Typ) (Ts : Typs) → arms_are_source arms ≡ true → arm_types mode false E S A arms ≡ Some Ts → AreSourceArms arms
    arms_typed_source no_arms S A Ts s h = tt
    arms_typed_source (arm q e rest) S A Ts s h =
        let w = both_true (is_source e) (arms_are_source rest) s in
        let p = also_some _ _ Ts h in
        let v = then_some _ (variables mode false E S.home q A) p.0 p.2 in
        (typed_source e (bind_all v.0 S) p.0 w.0 v.2, arms_typed_source rest S A p.1 w.1 p.3)

-- a term within the bounds of its spelling has code, and so has a packed value
mutual
  pub fits_source : (b : Bool) (e : Expr) → fits_term b e ≡ true → IsOfSource e
  fits_source b (Exn k) w = no_text (has_text k) (both_true (nat_le k 9) _ w).1
  fits_source b (ExnOf k e) w = let p = both_true (has_text k) _ w in (p.0, fits_source b e p.1)
  fits_source b (Tuple es) w = fit_sources b es (both_true _ _ w).1
  fits_source b (Present e) w = fits_source b e w
  fits_source b (Cons u v) w = let p = both_true (fits_term b u) _ w in (fits_source b u p.0, fits_source b v p.1)
  fits_source b (Lam T e) w = fits_source b e (both_true _ _ w).1
  fits_source b (Rec T U e) w = fits_source b e (both_true _ _ w).1
  fits_source b (App u v) w = let p = both_true (fits_term b u) _ w in (fits_source b u p.0, fits_source b v p.1)
  fits_source b (Let T u v) w = (fits_source b u (middle _ _ _ w), fits_source b v (both_true _ _ w).1)
  fits_source b (If t u v) w = (fits_source b t (left _ _ _ w), fits_source b u (middle _ _ _ w), fits_source b v (both_true _ _ w).1)
  fits_source b (Seq es) w = fit_sources b es (both_true _ _ w).1
  fits_source b (Match e arms) w = (fits_source b e (left _ _ _ (both_true _ _ w).0), fit_source_arms b arms (middle _ _ _ (both_true _ _ w).0))
  fits_source b (Try e arms) w = (fits_source b e (left _ _ _ (both_true _ _ w).0), fit_source_arms b arms (middle _ _ _ (both_true _ _ w).0))
  fits_source b (Raise T e) w = fits_source b e (both_true _ _ w).1
  fits_source b (Prim k es) w = fit_sources b es (both_true _ _ w).1
  fits_source b (Marshal T u v) w = (fits_source b u (middle _ _ _ w), fits_source b v (both_true _ _ w).1)
  fits_source b (Unmarshal T e) w = fits_source b e (both_true _ _ w).1
  fits_source b (Val T v) w = fits_packed v (both_true _ _ w).1
  fits_source b (Evaluated T v) w = absurd (true≢false (sym w))
  fits_source b (Bracket c T e) w = absurd (true≢false (sym w))
  fits_source b _ w = tt

  fit_sources : (b : Bool) (es : Exprs) → fit_terms b es ≡ true → AreSource es
  fit_sources b no_exprs w = tt
  fit_sources b (expr e es) w = let p = both_true (fits_term b e) _ w in (fits_source b e p.0, fit_sources b es p.1)

  fit_source_arms : (b : Bool) (arms : Arms) → fit_arms b arms ≡ true → AreSourceArms arms
  fit_source_arms b no_arms w = tt
  fit_source_arms b (arm p e rest) w = (fits_source b e (middle _ _ _ w), fit_source_arms b rest (both_true _ _ w).1)

  pub fits_packed : (v : PValue) → fits_value v ≡ true → IsPacked v
  fits_packed (KExn k None) w = no_text (has_text k) (both_true (nat_le k 9) _ (both_true _ _ w).0).1
  fits_packed (KExn k (Some s)) w = (both_true (has_text k) _ w).0
  fits_packed (KTuple vs) w = fit_packed vs (both_true _ _ w).1
  fits_packed (KList vs) w = fit_packed vs (both_true _ _ w).1
  fits_packed (KPresent v) w = fits_packed v w
  fits_packed (KFun h (Lam T e)) w = fits_source true e (both_true _ _ (both_true _ _ w).1).1
  fits_packed (KFun h (Rec T U e)) w = fits_source true e (both_true _ _ (both_true _ _ w).1).1
  fits_packed (KFun h _) w = absurd (true≢false (sym (middle _ _ _ w)))
  fits_packed _ w = tt

  fit_packed : (vs : PValues) → fit_values vs ≡ true → ArePacked vs
  fit_packed no_pvalues w = tt
  fit_packed (pvalue v vs) w = let p = both_true (fits_value v) _ w in (fits_packed v p.0, fit_packed vs p.1)

-- each field of coherent definitions has code
pub coherent_sources : (E : Environment) → IsCoherent E → Sources E
coherent_sources E coherent j f = by (own_field E (In j) f) refl
  where
    by : (o : Option Expr) → own_field E (In j) f ≡ o → SourceField o
    by None e = tt
    by (Some t) e =
        let x = is_field E coherent j f t e in
        let fields = (both_true _ _ (coherent.within_bounds j (AModule x.module') x.is_module)).1 in
        let fits = at_index (λ (y : Field). is_lower y.name && fits_type false y.ty && fits_term false y.term) x.module'.fields f x.field fields x.is_there in
        fits_source false t (subst (λ u. fits_term false u ≡ true) x.is_term (both_true _ _ fits).1)
