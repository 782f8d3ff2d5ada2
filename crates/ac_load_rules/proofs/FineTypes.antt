-- The types that a text writes in a scope: they are known, and within the bounds of their spelling.
use Rattle.std.proofs.Common.{◌≡◌, ◌∙◌, ◌≤◌, refl, sym, ap, ap₂, subst, ℕ, suc, Bool, true, false, List, [], Option, Some, None}
use Rattle.std.specs.Prelude.{nat_le, is_some, option_map, option_and_then, unwrap_or, if◌then◌else◌}
use Rattle.std.specs.List.{list_all}
use Rattle.std.proofs.lemmas.Bool.{le-leb, leb-true}
use Rattle.ac_types.specs.Limits.{widest_tuple}
use Rattle.ac_types.proofs.FirstLaws.{none≢some}
use Rattle.ac_types.proofs.Same.{and_true}
use Rattle.ac_types.specs.Types.{Bytes, Typ, TUnit, TAbs, TMine, Typs, mentions, mentions_of_all, with_mine}
use Rattle.ac_types.specs.Sigs.{Signature, type_under}
use Rattle.ac_terms.specs.Defs.{Environment, signature_at, name_at}
use Rattle.ac_terms.specs.Spelling as spelling
use Rattle.ac_terms.specs.Bounds.{is_width, fit_types}
use Rattle.ac_terms.proofs.AllLaws.{all_append}
use Rattle.ac_rules.specs.Views.{is_known}
use Rattle.ac_rules.specs.Modules.{mine, all_mine}
use Rattle.ac_rules.specs.Coherent.{IsCoherent}
use Rattle.ac_syntax.specs.Trees.{NameAt, TypeTree, TyInt, TyBool, TyStr, TyUnit, TyExn, TyLocal, TyOf, TyTuple, TyList, TyOpt, TyFun, TypeTrees, no_type_trees, type_tree}
use Rattle.ac_resolve_scopes.specs.Scopes.{NameScope, before_dot, type_outside, plain_type, dotted_type, with_variables}
use Rattle.ac_resolve_scopes.specs.Standard.{beside_name}
use Rattle.ac_resolve_scopes.specs.Written.{type_in, types_in}
use Rattle.ac_resolve_scopes.specs.Unbound.{unless, unbound_behind, unbound_type, unbound_types}
use Rattle.ac_resolve_scopes.specs.Counts as counts
use Rattle.ac_resolve_scopes.specs.Counts.{over, wide_type, wide_types, large_type}
use Rattle.ac_load_rules.proofs.Distinct.{least_none}
use Rattle.ac_load_rules.proofs.TreeBounds.{TypeHas, TypesHave}
use Rattle.ac_load_rules.proofs.OutsideTypes.{IsFine, outside_fine}

-- a count within its limit
pub within : (limit n : ℕ) → over limit n ≡ None → n ≤ limit
within limit n h = by (nat_le n limit) refl h where
  by : (b : Bool) → nat_le n limit ≡ b → (if b then None else Some (suc limit)) ≡ None → n ≤ limit
  by true e h = leb-true n limit e
  by false e h = absurd (none≢some (sym h))

pub width_fits : (n : ℕ) → 2 ≤ n → over widest_tuple n ≡ None → is_width n ≡ true
width_fits n some h = and_true (le-leb 2 n some) (le-leb n 16 (within widest_tuple n h))

-- what is there where nothing is missing
pub there_unless : {A : Type 0} (o : Option A) (at : ℕ) → unless o at ≡ None → (a : A) × (o ≡ Some a)
there_unless None at h = absurd (none≢some (sym h))
there_unless (Some a) at h = (a, refl)

pub there_behind : {A : Type 0} (b : Bool) (o : Option A) (m x : NameAt) → unbound_behind b o m x ≡ None → (a : A) × (o ≡ Some a)
there_behind false o m x h = absurd (none≢some (sym h))
there_behind true o m x h = there_unless o x.at h

module _ (E : Environment) (coherent : IsCoherent E) (own : Bytes → Bool) (inside : Bool) where
  -- a scope behind entries like those of the environment, whose types with a plain name are fine
  pub record IsScope (S : NameScope) : Type 0 where
    pub signatures : (j : ℕ) → signature_at S.entries j ≡ signature_at E j
    pub kept : (j : ℕ) → name_at S.entries j ≡ name_at E j
    pub types : (t : Bytes) (T : Typ) → beside_name t S.types ≡ Some T → IsFine E own inside T

  pub with_more : (xs : List NameAt) {S : NameScope} → IsScope S → IsScope (with_variables xs S)
  with_more xs s = record { signatures = s.signatures; kept = s.kept; types = s.types }

  record AreFine (Ts : Typs) : Type 0 where
    known : list_all (is_known E) (mentions_of_all Ts) ≡ true
    mine : list_all own (all_mine Ts) ≡ true
    fit : fit_types inside Ts ≡ true

  types_counted : (S : NameScope) (ts : TypeTrees) → spelling.type_count (types_in S ts) ≡ counts.type_tree_count ts
  types_counted S no_type_trees = refl
  types_counted S (type_tree t ts) = ap suc (types_counted S ts)

  -- a type of a definition, and one of the scope
  from_outside : {S : NameScope} → IsScope S → (j : ℕ) (t : Bytes) (T : Typ) → type_outside S.entries t j ≡ Some T → IsFine E own inside T
  from_outside {S} s j t T h = outside_fine E coherent own inside t j T (same ∙ h) where
    same : type_outside E t j ≡ type_outside S.entries t j
    same = sym (ap₂ by_name (s.signatures j) (s.kept j)) where
      by_name : Option Signature → Option Bytes → Option Typ
      by_name o n = option_and_then (λ (g : Signature). option_map (λ m. with_mine (TAbs (unwrap_or n [])) (unwrap_or m (TMine t))) (type_under t g.types)) o

  dotted_fine : {S : NameScope} → IsScope S → (o : Option ℕ) (t : Bytes) (T : Typ) → option_and_then (type_outside S.entries t) o ≡ Some T → IsFine E own inside T
  dotted_fine s None t T h = absurd (none≢some h)
  dotted_fine s (Some j) t T h = from_outside s j t T h

  mutual
    pub type_fine : (S : NameScope) → IsScope S → (t : TypeTree) → TypeHas t → unbound_type S t ≡ None → wide_type t ≡ None → IsFine E own inside (type_in S t)
    type_fine S s (TyInt at) h u w = record { known = refl; mine = refl; fits = refl }
    type_fine S s (TyBool at) h u w = record { known = refl; mine = refl; fits = refl }
    type_fine S s (TyStr at) h u w = record { known = refl; mine = refl; fits = refl }
    type_fine S s (TyUnit at) h u w = record { known = refl; mine = refl; fits = refl }
    type_fine S s (TyExn at) h u w = record { known = refl; mine = refl; fits = refl }
    type_fine S s (TyLocal at t) h u w =
        let x = there_unless (plain_type S t) at u in
        subst (IsFine E own inside) (sym (ap (λ o. unwrap_or o TUnit) x.1)) (s.types t x.0 x.1)
    type_fine S s (TyOf at m t) h u w =
        let x = there_behind (is_some (before_dot S m.word)) (dotted_type S m.word t.word) m t u in
        subst (IsFine E own inside) (sym (ap (λ o. unwrap_or o TUnit) x.1)) (dotted_fine s (before_dot S m.word) t.word x.0 x.1)
    type_fine S s (TyTuple at parts) h u w =
        let v = least_none (over widest_tuple (counts.type_tree_count parts)) (wide_types parts) w in
        let x = types_fine S s parts h.1 u v.1 in
        record { known = x.known; mine = x.mine; fits = and_true (ap is_width (types_counted S parts) ∙ width_fits (counts.type_tree_count parts) h.0 v.0) x.fit }
    type_fine S s (TyList at item) h u w = let x = type_fine S s item h u w in record { known = x.known; mine = x.mine; fits = x.fits }
    type_fine S s (TyOpt at item) h u w = let x = type_fine S s item h u w in record { known = x.known; mine = x.mine; fits = x.fits }
    type_fine S s (TyFun at from to) h u w =
        let a = least_none (unbound_type S from) (unbound_type S to) u in
        let b = least_none (wide_type from) (wide_type to) w in
        let x = type_fine S s from h.0 a.0 b.0 in
        let y = type_fine S s to h.1 a.1 b.1 in
        record {
          known = all_append (is_known E) (mentions (type_in S from)) (mentions (type_in S to)) x.known y.known;
          mine = all_append own (mine (type_in S from)) (mine (type_in S to)) x.mine y.mine;
          fits = and_true x.fits y.fits;
        }

    types_fine : (S : NameScope) → IsScope S → (ts : TypeTrees) → TypesHave ts → unbound_types S ts ≡ None → wide_types ts ≡ None → AreFine (types_in S ts)
    types_fine S s no_type_trees h u w = record { known = refl; mine = refl; fit = refl }
    types_fine S s (type_tree t ts) h u w =
        let a = least_none (unbound_type S t) (unbound_types S ts) u in
        let b = least_none (wide_type t) (wide_types ts) w in
        let x = type_fine S s t h.0 a.0 b.0 in
        let y = types_fine S s ts h.1 a.1 b.1 in
        record {
          known = all_append (is_known E) (mentions (type_in S t)) (mentions_of_all (types_in S ts)) x.known y.known;
          mine = all_append own (mine (type_in S t)) (all_mine (types_in S ts)) x.mine y.mine;
          fit = and_true x.fits y.fit;
        }

  -- a type where it is written
  pub written_fine : (S : NameScope) → IsScope S → (t : TypeTree) → TypeHas t → unbound_type S t ≡ None → large_type S t ≡ None → IsFine E own inside (type_in S t)
  written_fine S s t h u n = type_fine S s t h u (least_none (wide_type t) _ n).0
