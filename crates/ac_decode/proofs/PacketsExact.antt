-- Definitions and packets are read exactly: what is read of all bytes is what they spell.
use Rattle.std.proofs.Common.{◌≡◌, refl, ap, sym, subst, ◌∙◌, ℕ, Bool, true, false, ◌&&◌, List, [], ◌∷◌, ◌++◌, length, map, Some}
use Rattle.std.specs.Prelude.{nat_le, nat_eq}
use Rattle.std.specs.List.{list_all}
use native.Mathlib.Omega.{arith}
use mathlib.Core.Bool.{true≢false}
use Rattle.ac_types.proofs.Same.{both_true, and_true}
use Rattle.ac_types.specs.Types.{Bytes, Typ}
use Rattle.ac_types.specs.Sigs.{Typed_name, Signature, Atom, Constraint, Resolve}
use Rattle.ac_terms.specs.Terms.{PValue}
use Rattle.ac_terms.specs.Defs.{Field, Module, Import, Def, AModule, AnImport, AMark, Packet}
use Rattle.ac_terms.specs.Nesting.{value_nesting}
use Rattle.ac_terms.specs.Parts.{OfType, sig_types, def_parts}
use Rattle.ac_terms.specs.Spelling.{byte, one_written, two_written, four_written, word, listed, atom_bytes, constraint_bytes, resolve_bytes, type_bytes, value_bytes, def_bytes, packet_bytes}
use Rattle.ac_terms.specs.SpelledBy.{typed_bytes, sig_bytes, field_bytes}
use Rattle.ac_terms.specs.Bounds.{is_two, is_four, is_upper, fits_atom, fits_constraint, fits_resolve, fits_typed, fits_sig, fits_def, is_module_or_import, nests_little, has_small_types, fits_packet}
use Rattle.ac_terms.specs.PacketReading.{ReadsPart, one, pair, nothing, a_module, an_import, a_packet}
use Rattle.ac_terms.proofs.Back.{Back, back_one, back_after}
use Rattle.ac_terms.proofs.BoundsLaws.{module_bounds, import_bounds, packet_bounds}
use Rattle.ac_terms.proofs.TestLaws.{le_true, le_is, eq_true}
use Rattle.ac_terms.specs.Tags.{packet_front, packet_mark, packet_in_full}
use Rattle.ac_decode_pieces.specs.ExactReading.{in_limits, exact_upper, exact_version, exact_constraint, exact_resolves}
use Rattle.ac_decode_pieces.specs.ExactTypes.{exact_type, exact_all_typed, exact_sig}
use Rattle.ac_decode_pieces.proofs.Exact.{Took, IsExact, Once, once, twice, exact_passing, exact_list, exact_two_parts, AllOf, each_passes, of_all, all_to}
use Rattle.ac_decode_pieces.proofs.Tables.{table_sound, sound_nothing, sound_one}
use Rattle.ac_decode_pieces.proofs.Pieces.{Is, byte_is_exact, four_is_exact, two_is_exact, lower_is_exact, upper_is_exact, long_count_is_exact, version_is_exact, constraint_is_exact, resolves_is_exact}
use Rattle.ac_decode_pieces.proofs.TypesExact.{SmallType, SmallAll, SmallSig, type_is_exact, all_typed_is_exact, sig_is_exact}
use Rattle.ac_decode.specs.inner.ExactTerms.{exact_value}
use Rattle.ac_decode.specs.inner.ExactPackets.{field_made, exact_mark, exact_first, exact_head, exact_field, exact_fields, exact_module, exact_import, exact_def, exact_defs, exact_packet}
use Rattle.ac_decode.proofs.PartsSmall.{small_join, small_left, small_right}
use Rattle.ac_decode.proofs.TermsExact.{ProperValue, term_is_exact, value_is_exact}
use Rattle.ac_decode.proofs.DefBounds.{few, few_from, sig_fits, sig_small, sig_from, typed_parts, typed_fits, typed_small, typed_from, ProperField, fits_field, field_parts, fields_fit, fields_nest, fields_small, fields_from}

abbrev a_pair : {A B : Type 0} → A → B → A × B
a_pair a b = (a, b)

exact_pair : {A B : Type 0} {f : ReadsPart A} {g : ReadsPart B} {P : A → Type 0} {Q : B → Type 0} {s : A → Bytes} {t : B → Bytes} → IsExact f P s → IsExact g Q t →
    IsExact (pair f g) (λ p. P p.0 × Q p.1) (λ p. s p.0 ++ t p.1)
exact_pair x y = exact_two_parts a_pair (λ p. p.0) (λ p. p.1) (λ p. refl) (λ a b. refl) (λ a b. refl) x y

-- made of something that it gives back
exact_made : {A B : Type 0} {f : ReadsPart A} {P : A → Type 0} {s : A → Bytes} (c : A → B) (back : B → A) → ((b : B) → c (back b) ≡ b) → ((a : A) → back (c a) ≡ a) → IsExact f P s → IsExact (one c f) (λ b. P (back b)) (λ b. s (back b))
exact_made {f = f} {P} {s} c back whole parts x = record {
  sound = λ bs b rest e. sounds bs b rest (once c (f bs) b rest e);
  back = λ b p. subst (Back (one c f) (s (back b))) (whole b) (back_one c (x.back (back b) p));
}
  where
    sounds : (bs : Bytes) (b : _) (rest : Bytes) → Once c (f bs) b rest → Took (λ d. P (back d)) (λ d. s (back d)) bs b rest
    sounds bs b rest p =
        let t = x.sound bs p.first rest p.is in
        let same : p.first ≡ back b = sym (parts p.first) ∙ ap back (sym p.made) in
        record { fits = subst P same t.fits; parts = t.parts ∙ ap (λ a. s a ++ rest) same }

-- definitions within their bounds
pub record ProperDef (d : Def) : Type 0 where
  pub kind : is_module_or_import d ≡ true
  pub fits : fits_def d ≡ true
  pub nests : nests_little d ≡ true
  pub small : has_small_types (def_parts d) ≡ true

abbrev AtomsFit : List Atom → Type 0
AtomsFit xs = (in_limits 1 8 (length xs) ≡ true) × AllOf (Is fits_atom) xs

abbrev PlacesFit : List Resolve → Type 0
PlacesFit xs = (in_limits 1 16 (length xs) ≡ true) × AllOf (Is fits_resolve) xs

abbrev FieldsFit : List Field → Type 0
FieldsFit fs = (in_limits 0 1024 (length fs) ≡ true) × AllOf ProperField fs

module_proper : (p : (((Bytes × List Atom) × Signature) × List Typed_name) × List Field) →
    ((((is_upper p.0.0.0.0 ≡ true) × AtomsFit p.0.0.0.1) × SmallSig p.0.0.1) × SmallAll false p.0.1) × FieldsFit p.1 → ProperDef (a_module p)
module_proper p a =
    let v = both_true _ _ a.0.0.0.1.0 in
    record {
      kind = refl;
      fits = and_true (and_true (and_true (and_true (and_true (and_true (and_true (and_true a.0.0.0.0 v.0) v.1) (of_all fits_atom p.0.0.0.1 a.0.0.0.1.1)) (sig_fits p.0.0.1 a.0.0.1)) (few (length p.0.1) a.0.1.0)) (typed_fits p.0.1 a.0.1)) (few (length p.1) a.1.0)) (fields_fit p.1 a.1.1);
      nests = fields_nest p.1 a.1.1;
      small = small_join (map OfType (sig_types p.0.0.1) ++ typed_parts p.0.1) (field_parts p.1) (small_join (map OfType (sig_types p.0.0.1)) (typed_parts p.0.1) (sig_small p.0.0.1 a.0.0.1) (typed_small p.0.1 a.0.1.1)) (fields_small p.1 a.1.1);
    }

version_of : (u l e a s n t m f : Bool) → ((((((((u && l) && e) && a) && s) && n) && t) && m) && f) ≡ true → (l ≡ true) × (e ≡ true)
version_of u l e a s n t m f h =
    let p = both_true (((((((u && l) && e) && a) && s) && n) && t) && m) f h in
    let q = both_true ((((((u && l) && e) && a) && s) && n) && t) m p.0 in
    let r = both_true (((((u && l) && e) && a) && s) && n) t q.0 in
    let i = both_true ((((u && l) && e) && a) && s) n r.0 in
    let j = both_true (((u && l) && e) && a) s i.0 in
    let k = both_true ((u && l) && e) a j.0 in
    let x = both_true (u && l) e k.0 in
    ((both_true u l x.0).1, x.1)

places_of : (u s c n t l e r : Bool) → (((((((u && s) && c) && n) && t) && l) && e) && r) ≡ true → (l ≡ true) × (e ≡ true)
places_of u s c n t l e r h =
    let p = both_true ((((((u && s) && c) && n) && t) && l) && e) r h in
    let q = both_true (((((u && s) && c) && n) && t) && l) e p.0 in
    ((both_true ((((u && s) && c) && n) && t) l q.0).1, q.1)

proper_module : (m : Module) → ProperDef (AModule m) → ((((is_upper m.name ≡ true) × AtomsFit m.version) × SmallSig m.sig) × SmallAll false m.types) × FieldsFit m.fields
proper_module m a =
    let b = module_bounds m a.fits in
    let v = version_of (is_upper m.name) (nat_le 1 (length m.version)) (nat_le (length m.version) 8) (list_all fits_atom m.version) (fits_sig m.sig) (nat_le (length m.types) 1024) (list_all (fits_typed false) m.types) (nat_le (length m.fields) 1024) (list_all fits_field m.fields) a.fits in
    let s = small_left (map OfType (sig_types m.sig) ++ typed_parts m.types) (field_parts m.fields) a.small in (
      (
        (
          (b.upper, (and_true v.0 v.1, each_passes fits_atom m.version b.atoms)),
          sig_from m.sig b.sig (small_left (map OfType (sig_types m.sig)) (typed_parts m.types) s),
        ),
        typed_from m.types b.few_types b.types (small_right (map OfType (sig_types m.sig)) (typed_parts m.types) s),
      ),
      (few_from (length m.fields) b.few_fields, fields_from m.fields b.fields a.nests (small_right (map OfType (sig_types m.sig) ++ typed_parts m.types) (field_parts m.fields) a.small)),
    )

import_proper : (p : (((Bytes × Signature) × Constraint) × List Typed_name) × List Resolve) →
    ((((is_upper p.0.0.0.0 ≡ true) × SmallSig p.0.0.0.1) × (fits_constraint p.0.0.1 ≡ true)) × SmallAll false p.0.1) × PlacesFit p.1 → ProperDef (an_import p)
import_proper p a =
    let v = both_true _ _ a.1.0 in
    record {
      kind = refl;
      fits = and_true (and_true (and_true (and_true (and_true (and_true (and_true a.0.0.0.0 (sig_fits p.0.0.0.1 a.0.0.0.1)) a.0.0.1) (few (length p.0.1) a.0.1.0)) (typed_fits p.0.1 a.0.1)) v.0) v.1) (of_all fits_resolve p.1 a.1.1);
      nests = refl;
      small = small_join (map OfType (sig_types p.0.0.0.1)) (typed_parts p.0.1) (sig_small p.0.0.0.1 a.0.0.0.1) (typed_small p.0.1 a.0.1.1);
    }

proper_import : (m : Import) → ProperDef (AnImport m) → ((((is_upper m.name ≡ true) × SmallSig m.sig) × (fits_constraint m.constraint ≡ true)) × SmallAll false m.like) × PlacesFit m.by
proper_import m a =
    let b = import_bounds m a.fits in
    let n = places_of (is_upper m.name) (fits_sig m.sig) (fits_constraint m.constraint) (nat_le (length m.like) 1024) (list_all (fits_typed false) m.like) (nat_le 1 (length m.by)) (nat_le (length m.by) 16) (list_all fits_resolve m.by) a.fits in (
      (
        ((b.upper, sig_from m.sig b.sig (small_left (map OfType (sig_types m.sig)) (typed_parts m.like) a.small)), b.constraint),
        typed_from m.like b.few_likes b.likes (small_right (map OfType (sig_types m.sig)) (typed_parts m.like) a.small),
      ),
      (and_true n.0 n.1, each_passes fits_resolve m.by b.resolves),
    )

abbrev read_type : Bool → ReadsPart Typ
read_type = exact_type

field_is_exact : IsExact (exact_field read_type) ProperField (field_bytes type_bytes two_written)
unfolding exact_field
field_is_exact = exact_made field_made (λ f. ((f.name, f.ty), f.term)) (λ f. refl) (λ p. refl) (exact_pair (exact_pair lower_is_exact (type_is_exact false)) (term_is_exact type_bytes exact_type type_is_exact false 500))

fields_are_exact : IsExact (exact_fields read_type) FieldsFit (listed two_written (field_bytes type_bytes two_written))
unfolding exact_fields
fields_are_exact = exact_list field_is_exact (long_count_is_exact 0 1024 (omega arith))

abbrev module_parts : ReadsPart ((((Bytes × List Atom) × Signature) × List Typed_name) × List Field)
module_parts = pair (pair (pair (pair exact_upper exact_version) (exact_sig read_type)) (exact_all_typed read_type false)) (exact_fields read_type)

module_parts_are_exact : IsExact module_parts (λ p. ((((is_upper p.0.0.0.0 ≡ true) × AtomsFit p.0.0.0.1) × SmallSig p.0.0.1) × SmallAll false p.0.1) × FieldsFit p.1)
    (λ p. (((word p.0.0.0.0 ++ listed one_written atom_bytes p.0.0.0.1) ++ sig_bytes type_bytes p.0.0.1) ++ listed two_written (typed_bytes type_bytes) p.0.1) ++ listed two_written (field_bytes type_bytes two_written) p.1)
module_parts_are_exact =
    exact_pair (exact_pair (exact_pair (exact_pair upper_is_exact version_is_exact) (sig_is_exact type_bytes exact_type type_is_exact)) (all_typed_is_exact type_bytes exact_type type_is_exact false)) fields_are_exact

abbrev import_parts : ReadsPart ((((Bytes × Signature) × Constraint) × List Typed_name) × List Resolve)
import_parts = pair (pair (pair (pair exact_upper (exact_sig read_type)) exact_constraint) (exact_all_typed read_type false)) exact_resolves

import_parts_are_exact : IsExact import_parts (λ p. ((((is_upper p.0.0.0.0 ≡ true) × SmallSig p.0.0.0.1) × (fits_constraint p.0.0.1 ≡ true)) × SmallAll false p.0.1) × PlacesFit p.1)
    (λ p. (((word p.0.0.0.0 ++ sig_bytes type_bytes p.0.0.0.1) ++ constraint_bytes p.0.0.1) ++ listed two_written (typed_bytes type_bytes) p.0.1) ++ listed one_written resolve_bytes p.1)
import_parts_are_exact =
    exact_pair (exact_pair (exact_pair (exact_pair upper_is_exact (sig_is_exact type_bytes exact_type type_is_exact)) constraint_is_exact) (all_typed_is_exact type_bytes exact_type type_is_exact false)) resolves_is_exact

def_is_exact : IsExact (exact_def read_type) ProperDef def_bytes
unfolding exact_def exact_module exact_import
def_is_exact = record {
  sound = table_sound ProperDef def_bytes (nothing ∷ one a_module module_parts ∷ one an_import import_parts ∷ [])
      (sound_nothing _ _ 0, (sound_one _ _ 1 a_module module_parts_are_exact module_proper (λ p. refl), (sound_one _ _ 2 an_import import_parts_are_exact import_proper (λ p. refl), tt)));
  back = again;
}
  where
    again : (d : Def) → ProperDef d → Back (exact_def read_type) (def_bytes d) d
    again (AModule m) a = record { reads = (back_one a_module (module_parts_are_exact.back ((((m.name, m.version), m.sig), m.types), m.fields) (proper_module m a))).reads }
    again (AnImport m) a = record { reads = (back_one an_import (import_parts_are_exact.back ((((m.name, m.sig), m.constraint), m.like), m.by) (proper_import m a))).reads }
    again (AMark t) a = absurd (true≢false (sym a.kind))

defs_are_exact : IsExact (exact_defs read_type) (λ ds. (is_two (length ds) ≡ true) × AllOf ProperDef ds) (listed two_written def_bytes)
unfolding exact_defs
defs_are_exact = exact_list def_is_exact two_is_exact

-- what a packet begins with
abbrev head_bytes : Bytes
head_bytes = packet_front ++ packet_in_full ∷ []

abbrev IsHead : ℕ × ℕ → Type 0
IsHead h = ((is_four h.0 ≡ true) × (nat_eq packet_mark h.0 ≡ true)) × (Unit {0} × (nat_eq packet_in_full h.1 ≡ true))

abbrev head_spelled : ℕ × ℕ → Bytes
head_spelled h = four_written h.0 ++ byte h.1

head_is_exact : IsExact exact_head IsHead head_spelled
unfolding exact_mark exact_first
head_is_exact = exact_pair (exact_passing (nat_eq packet_mark) four_is_exact) (exact_passing (nat_eq packet_in_full) byte_is_exact)

head_is : (h : ℕ × ℕ) → IsHead h → head_spelled h ≡ head_bytes
head_is h a = ap (λ n. four_written n ++ byte h.1) (sym (eq_true packet_mark h.0 a.0.1)) ∙ ap (λ n. four_written packet_mark ++ byte n) (sym (eq_true packet_in_full h.1 a.1.1))

-- the rest of a packet
abbrev Packed : (List Def × Typ) × PValue → Type 0
Packed p = (((is_two (length p.0.0) ≡ true) × AllOf ProperDef p.0.0) × SmallType false p.0.1) × ProperValue 500 p.1

abbrev body : ReadsPart ((List Def × Typ) × PValue)
body = pair (pair (exact_defs read_type) (read_type false)) (exact_value read_type 500)

abbrev body_bytes : (List Def × Typ) × PValue → Bytes
body_bytes p = (listed two_written def_bytes p.0.0 ++ type_bytes p.0.1) ++ value_bytes two_written p.1

body_is_exact : IsExact body Packed body_bytes
body_is_exact = exact_pair (exact_pair defs_are_exact (type_is_exact false)) (value_is_exact type_bytes exact_type type_is_exact 500)

-- the bounds of a packet and those of its parts
packed_fits : (p : (List Def × Typ) × PValue) → Packed p → fits_packet (a_packet p) ≡ true
packed_fits p a =
    let ds = p.0.0 in
    let all = a.0.0.1 in
    and_true (and_true (and_true (and_true (and_true (and_true (and_true (and_true (and_true a.0.0.0
    (of_all is_module_or_import ds (all_to (λ d q. q.kind) ds all)))
    (of_all fits_def ds (all_to (λ d q. q.fits) ds all)))
    (of_all nests_little ds (all_to (λ d q. q.nests) ds all)))
    (of_all (λ d. has_small_types (def_parts d)) ds (all_to (λ d q. q.small) ds all)))
    a.0.1.fits) a.0.1.small) a.1.fits) (le_is (value_nesting p.1) 500 a.1.low)) a.1.small

proper_defs : (ds : List Def) → list_all is_module_or_import ds ≡ true → list_all fits_def ds ≡ true → list_all nests_little ds ≡ true → list_all (λ (d : Def). has_small_types (def_parts d)) ds ≡ true → AllOf ProperDef ds
proper_defs [] k f n s = tt
proper_defs (d ∷ ds) k f n s =
    let a = both_true _ _ k in
    let b = both_true _ _ f in
    let c = both_true _ _ n in
    let e = both_true _ _ s in
    (record { kind = a.0; fits = b.0; nests = c.0; small = e.0 }, proper_defs ds a.1 b.1 c.1 e.1)

packed_parts : (p : Packet) → fits_packet p ≡ true → Packed ((p.defs, p.ty), p.value)
packed_parts p w =
    let b = packet_bounds p w in
    (((b.few, proper_defs p.defs b.kinds b.defs b.defs_nest b.def_types), record { fits = b.ty; small = b.small }), record { fits = b.value; low = le_true (value_nesting p.value) 500 b.nests; small = b.value_types })

-- a packet's bytes are read as it, and what is read of all bytes is spelled by them
pub packet_sound : (bs : Bytes) (p : Packet) (rest : Bytes) → exact_packet read_type bs ≡ Some (p, rest) → Took (Is fits_packet) packet_bytes bs p rest
unfolding exact_packet
packet_sound bs p rest e =
    let q = twice (exact_head bs) (λ head. one a_packet body) p rest e in
    let h = head_is_exact.sound bs q.first q.mid q.is in
    let r = once a_packet (body q.mid) p rest q.later in
    let t = body_is_exact.sound q.mid r.first rest r.is in
    subst (λ x. Took (Is fits_packet) packet_bytes bs x rest) (sym r.made)
    (record { fits = packed_fits r.first t.fits; parts = h.parts ∙ ap (λ x. x ++ q.mid) (head_is q.first h.fits) ∙ ap (λ x. head_bytes ++ x) t.parts })

pub packet_back : (p : Packet) → fits_packet p ≡ true → Back (exact_packet read_type) (packet_bytes p) p
unfolding exact_packet
packet_back p w =
    record { reads = (back_after (λ head. one a_packet body) (head_is_exact.back (packet_mark, packet_in_full) ((refl, refl), (tt, refl))) (back_one a_packet (body_is_exact.back ((p.defs, p.ty), p.value) (packed_parts p w)))).reads }
