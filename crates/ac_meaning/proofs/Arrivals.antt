-- What is asked of the arrival of definitions and a value.
use Rattle.std.proofs.Common.{◌≡◌, true}
use Rattle.ac_types.specs.Types.{Bytes, Typ}
use Rattle.ac_terms.specs.Terms.{Home, Value}
use Rattle.ac_terms.specs.Defs.{Environment}
use Rattle.ac_rules.specs.Views.{Mode, view, are_known}
use Rattle.ac_rules.specs.Typing.{is_home}
use Rattle.ac_rules.specs.Coherent.{IsCoherent}
use Rattle.ac_meaning.specs.Worlds.{World}
use Rattle.ac_rules.specs.Growth.{Grows}
use Rattle.ac_meaning.specs.Packing.{Brings, arrival}
use Rattle.ac_meaning.specs.BareTerms.{BareValue, bare_value}
use Rattle.ac_meaning.specs.Typed.{ValueTyped}

-- the definitions grow
pub record Grow : Type 0 where
  pub grow : (z : World) (c : Home) (T : Typ) (s : Bytes) (F : Environment) (v : Mode → Value) (w : BareValue) → IsCoherent z.environment → arrival z c T s ≡ Brings F v w → Grows z.environment F

-- and in a home a value at a known type is of that type in each mode, and bare the same
pub record Arrives : Type 0 where
  pub grows : Grow
  pub typed : (mode : Mode) (z : World) (c : Home) (T : Typ) (s : Bytes) (F : Environment) (v : Mode → Value) (w : BareValue) → IsCoherent z.environment → is_home z.environment c ≡ true → are_known z.environment T ≡ true → arrival z c T s ≡ Brings F v w →
      ValueTyped mode F (v mode) c (view mode F c T)
  pub alike : (mode : Mode) (z : World) (c : Home) (T : Typ) (s : Bytes) (F : Environment) (v : Mode → Value) (w : BareValue) → IsCoherent z.environment → is_home z.environment c ≡ true → are_known z.environment T ≡ true → arrival z c T s ≡ Brings F v w → bare_value c (v mode) ≡ w
