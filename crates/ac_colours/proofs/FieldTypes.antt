-- A field's term has its type in all of its home.
use Rattle.std.proofs.Common.{◌≡◌, ℕ, ◌<◌, ◌≤◌, true, false, nat_lt, length, Option, Some}
use Rattle.std.specs.Prelude.{option_map, slice_get}
use Rattle.std.proofs.lemmas.Bool.Decides.{nat_tests}
use native.Mathlib.Omega.{arith}
use Rattle.ac_types.specs.Types.{Typ, TExn, TStr, TTuple, TList, TOpt, TFun, TBool}
use Rattle.ac_terms.specs.Terms.{In, Expr, Int, Boolean, Str, Unit', Exn, ExnOf, Tuple, Nil, Empty, Present, Cons, Var, Own, Ref, Lam, Rec, App, Let, If, Seq, Match, Try, Raise, Prim, Marshal, Unmarshal, Val, Evaluated, Bracket, Exprs, no_exprs, expr, Arms, no_arms, arm}
use Rattle.ac_terms.specs.Defs.{Environment, Field, Module}
use Rattle.ac_types.specs.Exceptions.{has_text}
use Rattle.ac_terms.specs.PrimitiveTypes.{primitive_type}
use Rattle.ac_rules.specs.Views.{Coloured, view}
use Rattle.ac_rules.specs.Typing.{Scope, bind, bind_all, all_of, of_field, fields_of, is_home, HasType, type_of, types_of, arm_types, variables, one_of, type_seen, last_of}
use Rattle.ac_rules.specs.Coherent.{IsCoherent}
use Rattle.ac_rules.proofs.Growth.{extends_not, home_there}
use Rattle.ac_rules.proofs.GrowthTyping.{More, map_more, then_more, kept_more, given_more, has_more, agree_more, both_more, also_more, applied_more, and_more, has_type_more}
use Rattle.ac_rules.proofs.Rules.{map_some}
use Rattle.ac_rules.proofs.ViewLaws.{within}
use Rattle.ac_meaning.specs.References.{own_field}
use Rattle.ac_meaning.specs.Typed.{own_type}
use Rattle.ac_meaning.proofs.Coherences.{is_field, is_sound}
use Rattle.ac_meaning.proofs.KnownNames.{own_there}
use Rattle.ac_meaning.proofs.Sound.{own_home}

below_more : (j a b : ℕ) → a ≤ b → nat_lt j a ≡ true → nat_lt j b ≡ true
below_more j a b le e = grind (arith, nat_tests)

below_le : (a b : ℕ) → a < b → a ≤ b
below_le a b l = grind arith

module _ (E : Environment) where
  -- where more own fields may be referred to, what has a type keeps it
  module _ (n : ℕ) where
    abbrev far : Scope → Scope
    far S = record S { own = n }

    abbrev seen : Scope → Typ → Option Typ
    seen S T = type_seen Coloured false E S.home T

    mutual
      own_wider : (e : Expr) (S : Scope) → S.own ≤ n → More (type_of Coloured false E S e) (type_of Coloured false E (far S) e)
      own_wider (Int k) S le x h = h
      own_wider (Boolean b) S le x h = h
      own_wider (Str s) S le x h = h
      own_wider Unit' S le x h = h
      own_wider (Exn k) S le x h = h
      own_wider (ExnOf k e) S le x h = given_more _ _ (Some TExn) (Some TExn) (and_more (has_text k) _ (has_text k) _ (λ q. q) (λ p. has_more _ _ TStr (own_wider e S le))) (λ y q. q) x h
      own_wider (Tuple es) S le x h = kept_more Coloured _ _ (map_more TTuple _ _ (all_own_wider es S le)) x h
      own_wider (Nil T) S le x h = h
      own_wider (Empty T) S le x h = h
      own_wider (Present e) S le x h = kept_more Coloured _ _ (map_more TOpt _ _ (own_wider e S le)) x h
      own_wider (Cons a b) S le x h = both_more _ _ _ _ (map_more TList _ _ (own_wider a S le)) (own_wider b S le) x h
      own_wider (Var i) S le x h = h
      own_wider (Own f) S le x h =
          let ty : Option Typ = option_map (λ (y : Field). y.ty) (slice_get (fields_of E S.home) f) in
          kept_more Coloured _ _ (map_more (view Coloured E S.home) _ _ (given_more (nat_lt f S.own) (nat_lt f n) ty ty (below_more f S.own n le) (λ y q. q))) x h
      own_wider (Ref j y) S le x h = h
      own_wider (Lam T e) S le x h = then_more _ _ (seen S T) (seen S T) (λ y q. q) (λ A q. kept_more Coloured _ _ (map_more (TFun A) _ _ (own_wider e (bind A S) le))) x h
      own_wider (Rec T U e) S le x h =
          then_more _ _ (seen S T) (seen S T) (λ y q. q)
          (λ A q. then_more _ _ (seen S U) (seen S U) (λ y r. r)
          (λ B r. kept_more Coloured _ _ (given_more _ _ (Some (TFun A B)) (Some (TFun A B)) (has_more _ _ B (own_wider e (bind A (bind (TFun A B) S)) le)) (λ y k. k)))) x h
      own_wider (App f a) S le x h = applied_more _ _ _ _ (own_wider f S le) (own_wider a S le) x h
      own_wider (Let T e b) S le x h = then_more _ _ (seen S T) (seen S T) (λ y q. q) (λ A q. given_more _ _ _ _ (has_more _ _ A (own_wider e S le)) (own_wider b (bind A S) le)) x h
      own_wider (If c a b) S le x h = given_more _ _ _ _ (has_more _ _ TBool (own_wider c S le)) (both_more _ _ _ _ (own_wider a S le) (own_wider b S le)) x h
      own_wider (Seq es) S le x h = then_more last_of last_of _ _ (all_own_wider es S le) (λ Ts q y k. k) x h
      own_wider (Match e arms) S le x h = then_more _ _ _ _ (own_wider e S le) (λ T q. then_more one_of one_of _ _ (arms_own_wider arms T S le) (λ Ts r y k. k)) x h
      own_wider (Try e arms) S le x h = both_more _ _ _ _ (own_wider e S le) (then_more one_of one_of _ _ (arms_own_wider arms TExn S le) (λ Ts q y k. k)) x h
      own_wider (Raise T e) S le x h = given_more _ _ _ _ (has_more _ _ TExn (own_wider e S le)) (λ y q. q) x h
      own_wider (Prim k es) S le x h = then_more (primitive_type k) (primitive_type k) _ _ (all_own_wider es S le) (λ Ts q y r. r) x h
      own_wider (Marshal T m e) S le x h =
          given_more _ _ (Some TStr) (Some TStr) (and_more _ _ _ _ (has_more _ _ TStr (own_wider m S le)) (λ p. agree_more _ _ _ _ (own_wider e S le) (λ y q. q))) (λ y q. q) x h
      own_wider (Unmarshal T e) S le x h = given_more _ _ _ _ (has_more _ _ TStr (own_wider e S le)) (λ y q. q) x h
      own_wider (Val T v) S le x h = h
      own_wider (Evaluated T v) S le x h = h
      own_wider (Bracket c T e) S le x h = h

      all_own_wider : (es : Exprs) (S : Scope) → S.own ≤ n → More (types_of Coloured false E S es) (types_of Coloured false E (far S) es)
      all_own_wider no_exprs S le x h = h
      all_own_wider (expr e es) S le x h = also_more _ _ _ _ (own_wider e S le) (all_own_wider es S le) x h

      arms_own_wider : (arms : Arms) (A : Typ) (S : Scope) → S.own ≤ n → More (arm_types Coloured false E S A arms) (arm_types Coloured false E (far S) A arms)
      arms_own_wider no_arms A S le x h = h
      arms_own_wider (arm p e rest) A S le x h =
          also_more _ _ _ _ (then_more _ _ (variables Coloured false E S.home p A) (variables Coloured false E S.home p A) (λ y q. q) (λ Us q. own_wider e (bind_all Us S) le)) (arms_own_wider rest A S le) x h

  -- the term of a field
  pub field_has_type : IsCoherent E → (j f : ℕ) (e : Expr) → own_field E (In j) f ≡ Some e → (A : Typ) × (own_type E (In j) f ≡ Some A) × HasType Coloured E (all_of E (In j)) e (view Coloured E (In j) A)
  field_has_type coherent j f e h =
      let x = is_field E coherent j f e h in
      let m : Module = x.module' in
      let A : Typ = x.field.ty in
      let own : own_type E (In j) f ≡ Some A = own_there E coherent m j f x.field x.is_module x.is_there in
      let home : is_home E (In j) ≡ true = own_home Coloured E coherent (In j) f A own in
      let lt : j < length E = home_there E j home in
      let here = (is_sound E coherent j f e x).1 in
      let refs = has_type_more E E (extends_not E coherent) Coloured (of_field j f) (length E) e (view Coloured E (In j) A) (below_le j (length E) lt) home here in
      let many : ℕ = length (fields_of E (In j)) in
      let there = map_some (λ (y : Field). y.ty) (slice_get (fields_of E (In j)) f) A own in
      (A, own, own_wider many e (record (of_field j f) { refs = length E }) (below_le f many (within (fields_of E (In j)) f there.0 there.1)) (view Coloured E (In j) A) refs)
