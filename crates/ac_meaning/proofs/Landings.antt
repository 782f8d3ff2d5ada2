-- Where what is admitted is sound, what arrives fits: the value that is rebuilt is of its type, in each mode and bare the same.
use Rattle.std.proofs.Common.{◌≡◌, refl, subst, true}
use Rattle.ac_types.specs.Types.{Bytes, Typ}
use Rattle.ac_terms.specs.Terms.{Home, PValue}
use Rattle.ac_terms.specs.Defs.{Environment}
use Rattle.ac_terms.specs.Bounds.{fits_value}
use Rattle.ac_rules.specs.Views.{Mode, view, are_known}
use Rattle.ac_rules.specs.Typing.{is_home, Holds}
use Rattle.ac_rules.specs.Coherent.{IsCoherent}
use Rattle.ac_meaning.specs.Worlds.{World}
use Rattle.ac_rules.specs.Growth.{Grows}
use Rattle.ac_meaning.specs.Packing.{Landing, Sinks, Lands, landing, Arrival, Unfit, Brings, brought}
use Rattle.ac_meaning.specs.BareTerms.{bare_value}
use Rattle.ac_meaning.specs.Typed.{ValueTyped}
use Rattle.ac_meaning.proofs.FromTypes.{rebuilt_ok}
use Rattle.ac_meaning.proofs.KnownNames.{known_types}
use Rattle.ac_meaning.proofs.RebuiltBare.{rebuilt_bare}
use Rattle.ac_rules.proofs.Growth.{known_more, home_more}
use Rattle.ac_meaning.proofs.Arrivals.{Grow, Arrives}

-- what is asked of what is admitted over coherent definitions: it only adds, and the packed value is within the bounds of its spelling and of the type
pub record Sound : Type 0 where
  pub grows : (E : Environment) (T : Typ) (s : Bytes) (F : Environment) (v : PValue) → IsCoherent E → landing E T s ≡ Lands F v → Grows E F
  pub fits : (E : Environment) (T : Typ) (s : Bytes) (F : Environment) (v : PValue) → IsCoherent E → landing E T s ≡ Lands F v → fits_value v ≡ true
  pub holds : (E : Environment) (T : Typ) (s : Bytes) (F : Environment) (v : PValue) → IsCoherent E → are_known E T ≡ true → landing E T s ≡ Lands F v → Holds F v T

module _ (sound : Sound) where
  abbrev Grown : Environment → Arrival → Type 0
  Grown E (Unfit x) = Unit {0}
  Grown E (Brings F v w) = Grows E F

  abbrev OfType : Mode → Home → Typ → Arrival → Type 0
  OfType mode c T (Unfit x) = Unit {0}
  OfType mode c T (Brings F v w) = ValueTyped mode F (v mode) c (view mode F c T)

  abbrev pub BareSame : Mode → Home → Arrival → Type 0
  BareSame mode c (Unfit x) = Unit {0}
  BareSame mode c (Brings F v w) = bare_value c (v mode) ≡ w

  grown : (z : World) (c : Home) (T : Typ) (s : Bytes) → IsCoherent z.environment → (l : Landing) → landing z.environment T s ≡ l → Grown z.environment (brought c T l)
  grown z c T s i (Sinks x) q = tt
  grown z c T s i (Lands F v) q = sound.grows z.environment T s F v i q

  of_type : (mode : Mode) (z : World) (c : Home) (T : Typ) (s : Bytes) → IsCoherent z.environment → is_home z.environment c ≡ true → are_known z.environment T ≡ true → (l : Landing) → landing z.environment T s ≡ l → OfType mode c T (brought c T l)
  of_type mode z c T s i h k (Sinks x) q = tt
  of_type mode z c T s i h k (Lands F v) q =
      let g = sound.grows z.environment T s F v i q in
      rebuilt_ok F g.after (known_types F g.after) mode v c T (known_more z.environment F g.extends T k) (home_more z.environment F g.extends c h) (sound.fits z.environment T s F v i q) (sound.holds z.environment T s F v i k q)

  pub bare_same : (mode : Mode) (c : Home) (T : Typ) (l : Landing) → BareSame mode c (brought c T l)
  bare_same mode c T (Sinks x) = tt
  bare_same mode c T (Lands F v) = rebuilt_bare mode F v c T

  pub grow : Grow
  grow = record { grow = λ z c T s F v w i q. subst (Grown z.environment) q (grown z c T s i (landing z.environment T s) refl) }

  pub arrives : Arrives
  arrives = record {
    grows = grow;
    typed = λ mode z c T s F v w i h k q. subst (OfType mode c T) q (of_type mode z c T s i h k (landing z.environment T s) refl);
    alike = λ mode z c T s F v w i h k q. subst (BareSame mode c) q (bare_same mode c T (landing z.environment T s));
  }
