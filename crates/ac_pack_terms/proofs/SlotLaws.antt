-- What comes in the place of variables.
use Rattle.std.proofs.Common.{◌≡◌, refl, sym, ap, ap₂, ◌∙◌, ℕ, zero, suc, ◌+◌, ◌<◌, List, [], ◌∷◌, Some, None, arith}
use Rattle.std.specs.Prelude.{unwrap_or}
use Rattle.ac_types.specs.Types.{Typ, TInt}
use Rattle.ac_code.specs.Code.{Code}
use Rattle.ac_values.specs.Values.{MValue, MMore}
use Rattle.ac_values.specs.ValueReaders.{newest_and_rest}
use Rattle.ac_meaning.specs.Substitution.{Slot, Free, Bound, up, slot_in, slot}
use Rattle.ac_machine_meaning.specs.Stands.{stands, environment_values}
use Rattle.ac_pack_terms.specs.inner.Slots.{slot_under, later, newest_type}

up_raised : {V : Type 0} (d : ℕ) (s : Slot V) → up (slot_under d s) ≡ slot_under (suc d) s
up_raised d (Free i) = ap Free (omega arith)
up_raised d (Bound T v) = refl

raised_none : {V : Type 0} (s : Slot V) → s ≡ slot_under 0 s
raised_none (Free i) = ap Free (omega arith)
raised_none (Bound T v) = refl

pub slot_below : {V : Type 0} (d : ℕ) (ws : List (Typ × V)) (i : ℕ) → i < d → Free i ≡ slot d ws i
slot_below zero ws i h = absurd (omega arith)
slot_below (suc d) ws zero h = refl
slot_below (suc d) ws (suc i) h = ap up (slot_below d ws i (omega arith))

pub slot_beyond : {V : Type 0} (d : ℕ) (ws : List (Typ × V)) (i j : ℕ) → i ≡ j + d → slot_under d (slot_in ws j) ≡ slot d ws i
slot_beyond zero ws i j e = let q : j ≡ i = omega arith in sym (raised_none (slot_in ws j)) ∙ ap (slot_in ws) q
slot_beyond (suc d) ws zero j e = absurd (omega arith)
slot_beyond (suc d) ws (suc i) j e = sym (up_raised d (slot_in ws j)) ∙ ap up (slot_beyond d ws i j (omega arith))

pub slot_of_none : {V : Type 0} (d i : ℕ) → Free i ≡ slot {V = V} d [] i
slot_of_none zero i = refl
slot_of_none (suc d) zero = refl
slot_of_none (suc d) (suc i) = ap up (slot_of_none d i)

module _ (K : Code) where
  pub variables_more : (m a b : MValue) (G : List Typ) → newest_and_rest m ≡ Some (a, b) → environment_values K m G ≡ (newest_type G, stands K a) ∷ environment_values K b (later G)
  variables_more (MMore x y) a b [] e =
      ap₂ (λ (u v : MValue). (TInt, stands K u) ∷ environment_values K v []) (ap (λ o. (unwrap_or {T = MValue × MValue} o (a, b)).0) e) (ap (λ o. (unwrap_or {T = MValue × MValue} o (a, b)).1) e)
  variables_more (MMore x y) a b (T ∷ G) e =
      ap₂ (λ (u v : MValue). (T, stands K u) ∷ environment_values K v G) (ap (λ o. (unwrap_or {T = MValue × MValue} o (a, b)).0) e) (ap (λ o. (unwrap_or {T = MValue × MValue} o (a, b)).1) e)
  variables_more m a b G e = absurd cc

  pub variables_end : (m : MValue) (G : List Typ) → newest_and_rest m ≡ None → environment_values K m G ≡ []
  variables_end (MMore x y) G e = absurd cc
  variables_end m G e = refl

  -- one variable further
  pub slot_further : (m a b : MValue) (G : List Typ) (j : ℕ) → newest_and_rest m ≡ Some (a, b) → slot_in (environment_values K m G) (suc j) ≡ slot_in (environment_values K b (later G)) j
  slot_further m a b G j e = ap (λ ws. slot_in ws (suc j)) (variables_more m a b G e)

  pub slot_here : (m a b : MValue) (G : List Typ) → newest_and_rest m ≡ Some (a, b) → slot_in (environment_values K m G) 0 ≡ Bound (newest_type G) (stands K a)
  slot_here m a b G e = ap (λ ws. slot_in ws 0) (variables_more m a b G e)

  pub slot_past : (m : MValue) (G : List Typ) (j : ℕ) → newest_and_rest m ≡ None → slot_in (environment_values K m G) j ≡ Free j
  slot_past m G j e = ap (λ ws. slot_in ws j) (variables_end m G e)

pub ruleset held_laws = (slot_further, slot_here, slot_past, arith)

pub ruleset slot_laws = (slot_below, slot_beyond, slot_of_none, arith)

pub ruleset variable_laws = (arith)
