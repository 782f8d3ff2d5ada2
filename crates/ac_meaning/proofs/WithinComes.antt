-- Fields, what strings bring, and the exceptions of marshal and unmarshal are within the bounds.
use Rattle.std.proofs.Common.{◌≡◌, refl, subst, ℕ, zero, suc, ◌≤◌, true, false, ◌&&◌, List, [], ◌∷◌, ◌++◌, length, map, flat_map, Option, Some, None}
use Rattle.std.specs.Prelude.{nat_le, slice_get, slice_index, option_map, unwrap_or, IsTrue}
use Rattle.std.specs.List.{list_all}
use Rattle.std.proofs.lemmas.Bool.Decides.{nat_tests}
use native.Mathlib.Omega.{arith}
use Rattle.sha2.specs.Sha256.{sha256}
use Rattle.ac_types.specs.Limits.{longest_word, longest_string, longest_packet}
use Rattle.ac_types.proofs.FirstLaws.{none≢some, some_eq}
use Rattle.ac_types.proofs.Same.{both_true}
use Rattle.ac_types.specs.Types.{Bytes, Typ}
use Rattle.ac_types.specs.Sigs.{Typed_name}
use Rattle.ac_types.specs.Words.{is_word, is_between}
use Rattle.ac_terms.specs.Terms.{Home, In, Expr, PValue}
use Rattle.ac_terms.specs.Defs.{Environment, Field, Module, Def, AModule, AnImport, AMark, Packet}
use Rattle.ac_terms.specs.Parts.{Portion, OfType, term_parts, sig_types, def_parts}
use Rattle.ac_terms.specs.Bounds.{is_string, is_upper, is_lower, fits_type, fits_term, fits_def, fits_packet, has_small_types}
use Rattle.ac_terms.specs.PacketReading.{packet_of}
use Rattle.ac_terms.proofs.SpelledLaws.{read_is_spelled}
use Rattle.ac_rules.specs.Views.{Mode, Coloured}
use Rattle.ac_rules.specs.Typing.{of_field}
use Rattle.ac_rules.specs.Coherent.{IsCoherent}
use Rattle.ac_rules.specs.Packets.{PacketCause, Definition, Clash, Full, Unresolved, WrongType, NoValue, cause}
use Rattle.ac_rules.specs.Faults.{Fault, NoMark, Depth, Function, Size, Marshalled, NoString, AString, marshalled}
use Rattle.ac_rules.proofs.ListLaws.{all_at}
use Rattle.ac_rules.proofs.FaultLaws.{gives_packet}
use Rattle.ac_meaning.specs.Worlds.{World}
use Rattle.ac_meaning.specs.Packing.{Packing, CannotPack, Packs, packing, answer, of_fault, of_cause, import_name, Arrival, Unfit, Brings, arrival, brought, Landing, Sinks, Lands, landing, received, admitted}
use Rattle.ac_meaning.specs.References.{own_field}
use Rattle.ac_meaning.proofs.Coherences.{is_field, is_sound}
use Rattle.ac_meaning.proofs.KnownNames.{fields_source}
use Rattle.ac_meaning.proofs.Admitted.{arrived}
use Rattle.ac_meaning.proofs.Within.{Within, ValueWithin, RaisedWithin}
use Rattle.ac_meaning.proofs.WithinLaws.{loosened}
use Rattle.ac_meaning.proofs.WithinSources.{small_parts, one_small, term_within, value_within, source_rebuilt}
use Rattle.ac_meaning.proofs.WithinSteps.{ComesWithin}

-- a field of coherent definitions
abbrev field_parts : List Field → List Portion
field_parts fs = flat_map (λ (y : Field). OfType y.ty ∷ term_parts y.term) fs

field_small : (fs : List Field) (g : ℕ) (x : Field) → has_small_types (field_parts fs) ≡ true → slice_get fs g ≡ Some x → has_small_types (term_parts x.term) ≡ true
field_small [] g x h e = absurd (none≢some e)
field_small (y ∷ fs) zero x h e =
    let s = one_small y.ty (term_parts y.term ++ field_parts fs) h in
    subst (λ (z : Field). has_small_types (term_parts z.term) ≡ true) (some_eq e) (small_parts (term_parts y.term) (field_parts fs) s.1).0
field_small (y ∷ fs) (suc g) x h e =
    let s = one_small y.ty (term_parts y.term ++ field_parts fs) h in
    field_small fs g x (small_parts (term_parts y.term) (field_parts fs) s.1).1 e

field_within : (E : Environment) → IsCoherent E → (j f : ℕ) (e : Expr) → own_field E (In j) f ≡ Some e → Within false e
field_within E coherent j f e q =
    let x = is_field E coherent j f e q in
    let m : Module = x.module' in
    let typed = (is_sound E coherent j f e x).1 in
    let bounds = (both_true _ _ (coherent.within_bounds j (AModule m) x.is_module)).1 in
    let fit : fits_term false x.field.term ≡ true = (both_true _ _ (all_at (λ (y : Field). is_lower y.name && fits_type false y.ty && fits_term false y.term) m.fields f x.field bounds x.is_there)).1 in
    let all : has_small_types (def_parts (AModule m)) ≡ true = (both_true _ _ (coherent.plain j (AModule m) x.is_module)).0 in
    let front : List Portion = map OfType (sig_types m.sig) ++ map (λ (t : Typed_name). OfType t.ty) m.types in
    let small : has_small_types (term_parts x.field.term) ≡ true = field_small m.fields f x.field (small_parts front (field_parts m.fields) all).1 x.is_there in
    loosened e
    (subst (Within true) (source_rebuilt Coloured E e (In j) (fields_source E coherent j f e q))
    (term_within Coloured E E false e (of_field j f) _ (In j) typed (subst (λ t. fits_term false t ≡ true) x.is_term fit) (subst (λ t. has_small_types (term_parts t) ≡ true) x.is_term small)))

-- what a string brings, and why it doesn't
abbrev ArrivalWithin : Mode → Arrival → Type 0
ArrivalWithin mode (Unfit x) = RaisedWithin x
ArrivalWithin mode (Brings F v w) = ValueWithin (v mode)

upper_word : (w : Bytes) → is_upper w ≡ true → is_word w ≡ true
upper_word w e = (both_true (is_word w) (is_between 65 90 (slice_index w 0)) e).0

word_short : (w : Bytes) → is_word w ≡ true → nat_le (length w) longest_word ≡ true
word_short w e = (both_true _ _ (both_true _ _ (both_true _ _ (both_true _ _ e).0).0).0).1

short_string : (n : ℕ) → nat_le n longest_word ≡ true → nat_le n longest_string ≡ true
short_string n e = grind (arith, nat_tests)

name_short : (d : Def) → fits_def d ≡ true → is_string (import_name d) ≡ true
name_short (AnImport i) h =
    let upper : is_upper i.name ≡ true = (both_true _ _ (both_true _ _ (both_true _ _ (both_true _ _ (both_true _ _ (both_true _ _ (both_true _ _ h).0).0).0).0).0).0).0 in
    short_string (length i.name) (word_short i.name (upper_word i.name upper))
name_short (AModule m) h = refl
name_short (AMark t) h = refl

defs_fit : (p : Packet) → IsTrue (fits_packet p) → list_all fits_def p.defs ≡ true
defs_fit p h = (both_true _ _ (both_true _ _ (both_true _ _ (both_true _ _ (both_true _ _ (both_true _ _ (both_true _ _ (both_true _ _ h).0).0).0).0).0).0).0).1

cause_within : (ds : List Def) → list_all fits_def ds ≡ true → (why : PacketCause) → RaisedWithin (of_cause ds why)
cause_within ds h (Definition i) = (refl, refl)
cause_within ds h (Clash i j) = (refl, refl)
cause_within ds h (Full n) = (refl, refl)
cause_within ds h WrongType = (refl, refl)
cause_within ds h NoValue = (refl, refl)
cause_within ds h (Unresolved i) = (refl, by (slice_get ds i) refl)
  where
    by : (o : Option Def) → slice_get ds i ≡ o → is_string (unwrap_or (option_map import_name o) []) ≡ true
    by None e = refl
    by (Some d) e = name_short d (all_at fits_def ds i d h e)

abbrev SinksWithin : Landing → Type 0
SinksWithin (Sinks x) = RaisedWithin x
SinksWithin (Lands F v) = Unit {0}

admitted_within : (E : Environment) (p : Packet) → IsTrue (fits_packet p) → (o : Option PacketCause) → SinksWithin (admitted E p o)
admitted_within E p h None = tt
admitted_within E p h (Some why) = cause_within p.defs (defs_fit p h) why

landing_within : (E : Environment) (T : Typ) (s : Bytes) → SinksWithin (landing E T s)
unfolding landing
landing_within E T s = by (packet_of s) refl
  where
    by : (o : Option Packet) → packet_of s ≡ o → SinksWithin (received E T o)
    by None e = (refl, refl)
    by (Some p) e = admitted_within E p (read_is_spelled s p e).fits (cause sha256 E p T)

brought_within : (mode : Mode) (E : Environment) (c : Home) (T : Typ) (s : Bytes) → IsCoherent E → (l : Landing) → landing E T s ≡ l → ArrivalWithin mode (brought c T l)
brought_within mode E c T s i (Sinks x) q = subst SinksWithin q (landing_within E T s)
brought_within mode E c T s i (Lands F v) q =
    let a = (arrived E T s F v i q).1 in
    value_within mode F F v T c T a.value_holds a.value_fits a.small_types

arrival_within : (mode : Mode) (z : World) (c : Home) (T : Typ) (s : Bytes) → IsCoherent z.environment → ArrivalWithin mode (arrival z c T s)
arrival_within mode z c T s i = brought_within mode z.environment c T s i (landing z.environment T s) refl

-- packing
fault_within : (f : Fault) → RaisedWithin (of_fault f)
fault_within NoMark = (refl, refl)
fault_within Depth = (refl, refl)
fault_within Function = (refl, refl)
fault_within Size = (refl, refl)

abbrev PackingWithin : Packing → Type 0
PackingWithin (CannotPack x) = RaisedWithin x
PackingWithin (Packs s) = is_string s ≡ true

at_most : (n : ℕ) → n ≤ longest_packet → nat_le n longest_string ≡ true
at_most n h = grind (arith, nat_tests)

packing_within : (z : World) (T : Typ) (mark : Bytes) (v : PValue) → PackingWithin (packing z T mark v)
unfolding packing
packing_within z T mark v = by (marshalled z.environment mark T v) refl
  where
    by : (m : Marshalled) → marshalled z.environment mark T v ≡ m → PackingWithin (answer m)
    by (NoString f) e = fault_within f
    by (AString s) e = at_most (length s) (gives_packet z.environment mark T v s e).short

pub comes_within : ComesWithin
comes_within = record {
  fields = field_within;
  brought = λ mode z c T s F v w i q. subst (ArrivalWithin mode) q (arrival_within mode z c T s i);
  unfit = λ z c T s x i q. subst (ArrivalWithin Coloured) q (arrival_within Coloured z c T s i);
  refused = λ z T mark v x q. subst PackingWithin q (packing_within z T mark v);
  packed = λ z T mark v s q. subst PackingWithin q (packing_within z T mark v);
}
