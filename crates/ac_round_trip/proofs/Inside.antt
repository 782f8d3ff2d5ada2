-- The seals that a type wants round a value: inside them stands a copy where there is one at what the abstract type comes to.
use Rattle.std.proofs.Common.{◌≡◌, refl, subst, ℕ, zero, suc, Bool, true, false, length}
use Rattle.ac_types.specs.Types.{Typ, TAbs}
use Rattle.ac_terms.specs.Terms.{Home, Value}
use Rattle.ac_terms.specs.Defs.{Environment}
use Rattle.ac_rules.specs.Views.{Mode, opens, opened, rounds, unsealed, head}
use Rattle.ac_rules.proofs.KnownTypes.{rounds_still}
use Rattle.ac_meaning.specs.Rebuilding.{home_of_name, at_abstract, sealed, rebuilt_inside}
use Rattle.ac_round_trip.specs.Copies.{Copied, opened_there, sealed_there}

module _ (mode : Mode) (E F : Environment) (f : ℕ → ℕ) (c : Home) (v : Value) where
  abbrev Copy : Home → Typ → Value → Type 0
  Copy d T w = Copied mode E F f c v d T w

  -- what is made in each home, at the type that so many rounds give
  abbrev Made : ℕ → Typ → (Home → Typ → Value) → Type 0
  Made k T make = (e : Home) → Copy e (rounds k (unsealed F) T) (make e (rounds k (unsealed F) T))

  at_once : (k : ℕ) (d : Home) (T : Typ) (make : Home → Typ → Value) → unsealed F T ≡ T → Made k T make → Copy d T (make d T)
  at_once k d T make still h = subst (λ U. Copy d U (make d U)) (rounds_still k (unsealed F) T still) (h d)

  inside : (k : ℕ) (d : Home) (T : Typ) (make : Home → Typ → Value) → Made k T make → Copy d T (sealed mode F k d T make)
  inside zero d T make h = h d
  inside (suc k) d (TAbs n t) make h = by (λ e. inside k e (opened F n t) make h) (opens mode F d n) refl
    where
      by : ((e : Home) → Copy e (opened F n t) (sealed mode F k e (opened F n t) make)) → (b : Bool) → opens mode F d n ≡ b → Copy d (TAbs n t) (at_abstract mode F b d n t (λ e U. sealed mode F k e U make))
      by g true q = opened_there q (g d)
      by g false q = sealed_there q (g (home_of_name mode F n))
  inside (suc k) d T make h = at_once (suc k) d T make refl h

  pub copied_inside : (d : Home) (T : Typ) (make : Home → Typ → Value) → ((e : Home) → Copy e (head F T) (make e (head F T))) → Copy d T (rebuilt_inside mode F d T make)
  copied_inside d T make h = inside (length F) d T make h
