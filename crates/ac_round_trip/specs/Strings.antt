-- The string that marshal gives of a value, and what it brings where it is read.
use Rattle.std.specs.Prelude.{◌≡◌, ◌⊎◌, ℕ, ◌<◌, false, [], length, Some, None, codes, slice_get}
use Rattle.sha2.specs.Sha256.{sha256}
use Rattle.ac_types.specs.Limits.{most_entries}
use Rattle.ac_types.specs.Types.{Bytes, Typ, has_function, mentions}
use Rattle.ac_terms.specs.Terms.{Home, Main, Expr, Str, Marshal, Unmarshal, Evaluated, Value, VStr}
use Rattle.ac_terms.specs.Defs.{Environment, Import, AnImport, Packet}
use Rattle.ac_rules.specs.Views.{Mode, Coloured, view}
use Rattle.ac_rules.specs.Plain.{packed}
use Rattle.ac_rules.specs.Links.{linked, InPacket}
use Rattle.ac_rules.specs.Needed.{needed_by, roots_of, place_in, packet_for}
use Rattle.ac_rules.specs.Packets.{placed_number, places}
use Rattle.ac_rules.specs.Coherent.{IsCoherent}
use Rattle.ac_rules.specs.RoundTrip.{IsPackable}
use Rattle.ac_rules.specs.Growth.{Grows}
use Rattle.ac_meaning.specs.Worlds.{Exception, Made, Read, World, with_crossing}
use Rattle.ac_meaning.specs.Acts.{Turns, Returned, At, Over, Leads}
use Rattle.ac_meaning.specs.Reduction.{look, step}
use Rattle.ac_meaning.specs.BareReduction as lean
use Rattle.ac_meaning.specs.BareTerms.{BStr, BUnmarshal, BVal, bare_term, bare_value}
use Rattle.ac_meaning.specs.Typed.{ValueTyped}
use Rattle.ac_meaning.specs.Packing.{marshal_step, Arrival, Unfit, Brings, arrival, unmarshal_failure_exn, resolve_failure_exn}
use Rattle.ac_round_trip.specs.Copies.{Copied}

-- s is the string that marshal by this mark gives of v, a value of home c that is of type T there and within the bounds of its spelling
pub record IsString (mode : Mode) (z : World) (c : Home) (T : Typ) (v : Value) (mark s : Bytes) : Type 0 where
  pub coherent : IsCoherent z.environment
  pub typed : ValueTyped mode z.environment v c (view mode z.environment c T)
  pub packable : IsPackable z.environment T (packed z.environment c v T)
  pub gives : marshal_step z c T (VStr mark) v ≡ Turns (with_crossing (Made s) z) (Str s)

-- of a value of home c at type T, marshalled over E by the mark of number m
module _ (E : Environment) (m : ℕ) (c : Home) (T : Typ) (v : Value) where
  -- the packet that its string spells
  abbrev pub packet_of_value : Packet
  packet_of_value = packet_for E m T (packed E c v T)

  -- the number of definition j of E where that packet has been placed over F
  abbrev pub number_over : Environment → ℕ → ℕ
  number_over F j = placed_number (places sha256 F packet_of_value.defs).1 (place_in (needed_by E m (roots_of E T (packed E c v T))) j)

  -- why the string is refused over F: there is no room for the packet's definitions, or an import among them has no link
  abbrev pub HasReason : (F : Environment) → Exception → Type 0
  HasReason F x =
      ((most_entries < length (places sha256 F packet_of_value.defs).0) × (x ≡ unmarshal_failure_exn (codes "full"))) ⊎
      ((k : ℕ) × (i : Import) × (slice_get packet_of_value.defs k ≡ Some (AnImport i)) × (linked F i InPacket ≡ None) × (x ≡ resolve_failure_exn i.name))

  -- over F the packet's definitions are placed, and in each mode a copy of v is brought to home d. Without its brackets it is what is brought without brackets. Or the string is refused so
  abbrev pub BringsCopy : (F : Environment) (d : Home) → Arrival → Type 0
  BringsCopy F d (Unfit x) = HasReason F x
  BringsCopy F d (Brings G copy w) =
      Grows E G × (G ≡ (places sha256 F packet_of_value.defs).0) × ((mode : Mode) → Copied mode E G (number_over F) c v d T (copy mode) × (bare_value d (copy mode) ≡ w))

-- a type without functions and abstract types
pub record IsData (T : Typ) : Type 0 where
  pub no_function : has_function T ≡ false
  pub no_name : mentions T ≡ []

-- the string brings v, a value of home c over E, again to home d, and no definition. Without brackets it is v itself; in each mode it is v but for the types that empty lists and missing options carry
pub record BringsAgain (E : Environment) (c : Home) (v : Value) (y : World) (d : Home) (T : Typ) (s : Bytes) : Type 0 where
  pub again : Mode → Value
  pub brings : arrival y d T s ≡ Brings y.environment again (bare_value c v)
  pub same : (mode : Mode) → bare_value d (again mode) ≡ bare_value c v
  pub is_copy : (mode : Mode) → Copied mode E y.environment (λ j. j) c v d T (again mode)

-- `unmarshal (marshal MARK v : T) as T`
abbrev pub there_and_back : Typ → Bytes → Value → Expr
there_and_back T mark v = Unmarshal T (Marshal T (Str mark) (Evaluated T v))

-- in the world z the string was given, and then read
abbrev pub given_and_read : World → Bytes → World
given_and_read z s = with_crossing (Read s) (with_crossing (Made s) z)

-- in home c it becomes the unmarshal of the string, and this becomes a copy, which is v but for those types
abbrev pub ComesBackIn : (mode : Mode) (z : World) (c : Home) (T : Typ) (v : Value) (mark s : Bytes) → Type 0
ComesBackIn mode z c T v mark s =
    (w : Value) × Copied mode z.environment z.environment (λ j. j) c v c T w × (bare_value c w ≡ bare_value c v) ×
    (look mode z c (there_and_back T mark v) ≡ Turns (with_crossing (Made s) z) (Unmarshal T (Str s))) ×
    (look mode (with_crossing (Made s) z) c (Unmarshal T (Str s)) ≡ Turns (given_and_read z s) (Evaluated T w))

-- likewise without brackets, where it becomes v
abbrev pub BareComesBackIn : (z : World) (c : Home) (T : Typ) (v : Value) (mark s : Bytes) → Type 0
BareComesBackIn z c T v mark s =
    (lean.look z c (bare_term c (there_and_back T mark v)) ≡ Turns (with_crossing (Made s) z) (BUnmarshal T (BStr s))) ×
    (lean.look (with_crossing (Made s) z) c (BUnmarshal T (BStr s)) ≡ Turns (given_and_read z s) (BVal T (bare_value c v)))

-- in the main program it gives v again: in Coloured mode v itself, in Plain mode a copy, which is v but for those types
abbrev pub ComesBackThere : (mode : Mode) (N : ℕ) (z : World) (T : Typ) (v : Value) (mark s : Bytes) → Type 0
ComesBackThere mode N z T v mark s = (w : Value) × Copied mode z.environment z.environment (λ j. j) Main v Main T w × (bare_value Main w ≡ bare_value Main v) × (mode ≡ Coloured → w ≡ v) × Leads (step mode N) (At (there_and_back T mark v) z) (Over (Returned w (given_and_read z s)))
