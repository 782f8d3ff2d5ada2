-- Definitions, and what stands behind the head of a packet, are read back from their spelling, whatever follows: whatever spells their types, where those in them are read back.
use Rattle.std.proofs.Common.{◌≡◌, refl, ap, ℕ, Bool, true, false, ◌&&◌, List, [], ◌∷◌, ◌++◌, length, map, flat_map, Option, Some, None, subst, ◌∙◌, sym, option_to_list}
use Rattle.std.specs.Prelude.{nat_le}
use Rattle.std.specs.List.{list_all}
use Rattle.std.specs.Option.{option_map_or}
use Rattle.std.proofs.lemmas.Bool.Decides.{nat_tests}
use Rattle.std.proofs.lemmas.List.Folds.{list_all-map}
use mathlib.Core.Bool.{true≢false}
use native.Mathlib.Omega.{arith}
use Rattle.ac_types.proofs.Same.{both_true, and_true}
use Rattle.ac_types.specs.Types.{Bytes, Typ}
use Rattle.ac_types.specs.Sigs.{Typed_name, Sig_type, Signature, Atom, Number, MyName, Range, One, Between, UpTo, From, Constraint, Ranges, Exact, Resolve, StaticLink, HereAlready, Uri}
use Rattle.ac_terms.specs.Defs.{Field, Module, Import, Def, AModule, AnImport, AMark, Packet}
use Rattle.ac_terms.specs.Nesting.{nesting, value_nesting}
use Rattle.ac_terms.specs.Parts.{OfType, part_types, term_parts, sig_types, def_parts, value_parts}
use Rattle.ac_terms.specs.Spelling.{one_written, two_written as two_bytes, atom_bytes, range_bytes, constraint_bytes, resolve_bytes}
use Rattle.ac_terms.specs.SpelledBy.{manifest_bytes, sig_type_bytes, typed_bytes, sig_bytes, field_bytes, module_bytes, def_bytes, body_bytes, value_bytes}
use Rattle.ac_terms.specs.Bounds.{is_two, is_string, is_lower, fits_type, fits_atom, fits_range, fits_constraint, fits_resolve, fits_typed, fits_sig, fits_def, is_module_or_import, def_nesting, nests_little, fits_packet}
use Rattle.ac_terms.specs.PacketReading.{pair, read_atom, read_range, read_constraint, read_resolve, a_sig_type, a_typed, a_signature, a_field, a_module, an_import, a_packet}
use Rattle.ac_terms.specs.ReadBy.{read_manifest, read_sig_type, read_typed, read_sig, read_field, read_def, read_value}
use Rattle.ac_terms.specs.TableReading.{read_body}
use Rattle.ac_terms.specs.Tables.{type_places}
use Rattle.ac_terms.proofs.Back.{ReadsPart, Back, read_two, back_one, back_two, back_three, back_few, back_two_bytes, back_four_bytes, back_truth, back_word, back_str, back_name, back_list, back_list_as}
use Rattle.ac_terms.specs.Renumbered.{field_renumbered, def_renumbered}
use Rattle.ac_terms.proofs.TermBackBy.{back_term, back_value, count_two}
use Rattle.ac_terms.proofs.AllLaws.{all_left, all_right, all_and}
use Rattle.ac_terms.proofs.PartTypes.{field_types, module_types, import_types, types_in, module_as_parts, import_as_parts, defs_as_parts, good_first, good_rest, good_left, good_right}
use Rattle.ac_terms.proofs.BoundsLaws.{fits_field, module_bounds, import_bounds, packet_bounds}
use Rattle.ac_terms.proofs.RenumberedLaws.{same_value, same_def}
use Rattle.ac_terms.proofs.TestLaws.{le_true}

pub back_pair : {A B : Type 0} {f : ReadsPart A} {g : ReadsPart B} {bs cs : Bytes} {a : A} {b : B} → Back f bs a → Back g cs b → Back (pair f g) (bs ++ cs) (a, b)
back_pair p q = back_two (λ a b. (a, b)) p q

pub back_atom : (a : Atom) → fits_atom a ≡ true → Back read_atom (atom_bytes a) a
back_atom (Number n) w = record { reads = (back_one Number (back_four_bytes n w)).reads }
back_atom MyName w = record { reads = λ r. refl }

pub back_range : (a : Range) → fits_range a ≡ true → Back read_range (range_bytes a) a
back_range (One n) w = record { reads = (back_one One (back_four_bytes n w)).reads }
back_range (Between n m) w = record { reads = (back_two Between (back_four_bytes n (both_true _ _ w).0) (back_four_bytes m (both_true _ _ w).1)).reads }
back_range (UpTo n) w = record { reads = (back_one UpTo (back_four_bytes n w)).reads }
back_range (From n) w = record { reads = (back_one From (back_four_bytes n w)).reads }

pub back_constraint : (c : Constraint) → fits_constraint c ≡ true → Back read_constraint (constraint_bytes c) c
back_constraint (Ranges rs star) w =
    record { reads = (back_two Ranges (back_list back_range one_written rs (back_few 8 (length rs) (omega arith) (both_true _ _ (both_true _ _ w).0).1) (both_true _ _ (both_true _ _ w).0).0) (back_truth star)).reads }
back_constraint (Exact n) w = record { reads = (back_one Exact (back_name n w)).reads }

short_string : (u : Bytes) → nat_le (length u) 1024 ≡ true → is_string u ≡ true
short_string u e = grind (arith, nat_tests)

pub back_resolve : (a : Resolve) → fits_resolve a ≡ true → Back read_resolve (resolve_bytes a) a
back_resolve StaticLink w = record { reads = λ r. refl }
back_resolve HereAlready w = record { reads = λ r. refl }
back_resolve (Uri u) w = record { reads = (back_one Uri (back_str u (short_string u w))).reads }

abbrev nests_up_to : ℕ → Field → Bool
nests_up_to k f = nat_le (nesting f.term) k

both_all : (k : ℕ) (fs : List Field) → list_all fits_field fs ≡ true → list_all (λ n. nat_le n k) (map (λ (f : Field). nesting f.term) fs) ≡ true →
    list_all (λ f. fits_field f && nests_up_to k f) fs ≡ true
both_all k fs e d = all_and fits_field (nests_up_to k) fs e (sym (list_all-map (λ n. nat_le n k) (λ (f : Field). nesting f.term) fs) ∙ d)

-- a test that all items of a list of lists pass
pub all_flat : {A B : Type 0} (p : B → Bool) (f : A → List B) (xs : List A) → list_all p (flat_map f xs) ≡ true → list_all (λ x. list_all p (f x)) xs ≡ true
all_flat p f [] h = refl
all_flat p f (x ∷ xs) h =
    and_true {a = list_all p (f x)} {b = list_all (λ y. list_all p (f y)) xs} (all_left p (f x) (flat_map f xs) h) (all_flat p f xs (all_right p (f x) (flat_map f xs) h))

-- types are spelled and read so: those that pass a test are read back
module _ (type_bytes : Typ → Bytes) (read_type : ReadsPart Typ) (good : Typ → Bool) (back_type : (own : Bool) (T : Typ) → fits_type own T ≡ true → good T ≡ true → Back read_type (type_bytes T) T) where
  abbrev GoodTypes : List Typ → Type 0
  GoodTypes Ts = list_all good Ts ≡ true

  back_manifest : (o : Option Typ) → option_map_or (fits_type true) o true ≡ true → GoodTypes (option_to_list o) → Back (read_manifest read_type) (manifest_bytes type_bytes o) o
  back_manifest None w g = record { reads = λ r. refl }
  back_manifest (Some T) w g = record { reads = (back_one Some (back_type true T w (good_first good T [] g))).reads }

  abbrev fits_sig_type : Sig_type → Bool
  fits_sig_type t = is_lower t.name && option_map_or (fits_type true) t.manifest true

  abbrev good_sig_type : Sig_type → Bool
  good_sig_type t = list_all good (option_to_list t.manifest)

  back_sig_type : (t : Sig_type) → (fits_sig_type t && good_sig_type t) ≡ true → Back (read_sig_type read_type) (sig_type_bytes type_bytes t) t
  back_sig_type t w =
      let a = both_true (fits_sig_type t) (good_sig_type t) w in
      back_two a_sig_type (back_word t.name) (back_manifest t.manifest (both_true (is_lower t.name) (option_map_or (fits_type true) t.manifest true) a.0).1 a.1)

  abbrev good_typed : Typed_name → Bool
  good_typed x = good x.ty

  pub back_typed : (own : Bool) (x : Typed_name) → (fits_typed own x && good_typed x) ≡ true → Back (read_typed read_type) (typed_bytes type_bytes x) x
  back_typed own x w =
      let a = both_true (fits_typed own x) (good_typed x) w in
      back_two a_typed (back_word x.name) (back_type own x.ty (both_true (is_lower x.name) (fits_type own x.ty) a.0).1 a.1)

  all_typed : (own : Bool) (xs : List Typed_name) → list_all (fits_typed own) xs ≡ true → GoodTypes (map (λ (t : Typed_name). t.ty) xs) → list_all (λ x. fits_typed own x && good_typed x) xs ≡ true
  all_typed own xs w g = all_and (fits_typed own) good_typed xs w (sym (list_all-map good (λ (t : Typed_name). t.ty) xs) ∙ g)

  pub back_sig : (s : Signature) → fits_sig s ≡ true → GoodTypes (sig_types s) → Back (read_sig read_type) (sig_bytes type_bytes s) s
  back_sig s w g =
      let a = both_true _ _ w in
      let b = both_true _ _ a.0 in
      let c = both_true _ _ b.0 in
      let manifest : List Typ = flat_map (λ (t : Sig_type). option_to_list t.manifest) s.types in
      let vals : List Typ = map (λ (v : Typed_name). v.ty) s.vals in
      back_two a_signature
      (back_list back_sig_type two_bytes s.types (back_two_bytes (length s.types) (count_two (length s.types) c.0)) (all_and fits_sig_type good_sig_type s.types b.1 (all_flat good (λ (t : Sig_type). option_to_list t.manifest) s.types (all_left good manifest vals g))))
      (back_list (back_typed true) two_bytes s.vals (back_two_bytes (length s.vals) (count_two (length s.vals) c.1)) (all_typed true s.vals a.1 (all_right good manifest vals g)))

  -- modules whose fields nest at most so far, whatever spells their references
  module _ (read_ref : ReadsPart ℕ) where
    module _ (ref : ℕ → Bytes) (g : ℕ → ℕ) (back_ref : (j : ℕ) → is_two j ≡ true → Back read_ref (ref j) (g j)) where
      abbrev good_field : Field → Bool
      good_field f = list_all good (field_types f)

      abbrev fine_field : ℕ → Field → Bool
      fine_field k f = fits_field f && nests_up_to k f

      back_field : (k : ℕ) (f : Field) → (fine_field k f && good_field f) ≡ true → Back (read_field read_type read_ref k) (field_bytes type_bytes ref f) (field_renumbered g f)
      back_field k f w =
          let c = both_true (fine_field k f) (good_field f) w in
          let a = both_true (fits_field f) (nests_up_to k f) c.0 in
          let b = both_true (is_lower f.name && fits_type false f.ty) _ a.0 in
          back_three a_field (back_word f.name) (back_type false f.ty (both_true (is_lower f.name) (fits_type false f.ty) b.0).1 (good_first good f.ty (part_types (term_parts f.term)) c.1))
          (back_term type_bytes read_type good back_type ref g read_ref back_ref false (λ e. absurd (true≢false (sym e))) f.term k (le_true (nesting f.term) k a.1) b.1 (good_rest good f.ty (part_types (term_parts f.term)) c.1))

      pub back_module : (k : ℕ) (m : Module) → fits_def (AModule m) ≡ true → list_all (λ n. nat_le n k) (def_nesting (AModule m)) ≡ true → GoodTypes (module_types m) →
          Back (read_def read_type read_ref k) (module_bytes type_bytes ref m) (def_renumbered g (AModule m))
      back_module k m w h q =
          let b = module_bounds m w in
          let types : List Typ = map (λ (t : Typed_name). t.ty) m.types in
          let front = all_left good (sig_types m.sig ++ types) (flat_map field_types m.fields) q in
          let fields = all_flat good field_types m.fields (all_right good (sig_types m.sig ++ types) (flat_map field_types m.fields) q) in
          record {
            reads = (back_one a_module
                (back_pair
                (back_pair
                (back_pair (back_pair (back_word m.name) (back_list back_atom one_written m.version (back_few 8 (length m.version) (omega arith) b.few_atoms) b.atoms)) (back_sig m.sig b.sig (all_left good (sig_types m.sig) types front)))
                (back_list (back_typed false) two_bytes m.types (back_two_bytes (length m.types) (count_two (length m.types) b.few_types)) (all_typed false m.types b.types (all_right good (sig_types m.sig) types front))))
                (back_list_as (field_renumbered g) (back_field k) two_bytes m.fields (back_two_bytes (length m.fields) (count_two (length m.fields) b.few_fields)) (all_and (fine_field k) good_field m.fields (both_all k m.fields b.fields h) fields)))).reads;
          }

    pub back_import : (k : ℕ) (i : Import) → fits_def (AnImport i) ≡ true → GoodTypes (import_types i) → Back (read_def read_type read_ref k) (def_bytes type_bytes (AnImport i)) (AnImport i)
    back_import k i w q =
        let b = import_bounds i w in
        let types : List Typ = map (λ (t : Typed_name). t.ty) i.like in
        record {
          reads = (back_one an_import
              (back_pair
              (back_pair
              (back_pair (back_pair (back_word i.name) (back_sig i.sig b.sig (all_left good (sig_types i.sig) types q))) (back_constraint i.constraint b.constraint))
              (back_list (back_typed false) two_bytes i.like (back_two_bytes (length i.like) (count_two (length i.like) b.few_likes)) (all_typed false i.like b.likes (all_right good (sig_types i.sig) types q))))
              (back_list back_resolve one_written i.by (back_few 16 (length i.by) (omega arith) b.few_resolves) b.resolves))).reads;
        }

  -- a definition whose fields nest at most so far
  pub back_def : (k : ℕ) (d : Def) → is_module_or_import d ≡ true → fits_def d ≡ true → list_all (λ n. nat_le n k) (def_nesting d) ≡ true → GoodTypes (types_in d) → Back (read_def read_type read_two k) (def_bytes type_bytes d) d
  back_def k (AModule m) i w h g =
      subst (Back (read_def read_type read_two k) (module_bytes type_bytes two_bytes m)) (same_def (AModule m)) (back_module read_two two_bytes (λ j. j) back_two_bytes k m w h (ap (list_all good) (sym (module_as_parts m)) ∙ g))
  back_def k (AnImport m) i w h g = back_import read_two k m w (ap (list_all good) (sym (import_as_parts m)) ∙ g)
  back_def k (AMark t) i w h g = absurd (true≢false (sym i))

  -- the definitions, the type and the value of a packet
  abbrev fits_packed_def : Def → Bool
  fits_packed_def d = (is_module_or_import d && fits_def d) && nests_little d

  abbrev good_def : Def → Bool
  good_def d = list_all good (types_in d)

  back_packed_def : (d : Def) → (fits_packed_def d && good_def d) ≡ true → Back (read_def read_type read_two 500) (def_bytes type_bytes d) d
  back_packed_def d w =
      let c = both_true (fits_packed_def d) (good_def d) w in
      let a = both_true (is_module_or_import d && fits_def d) (nests_little d) c.0 in
      let b = both_true (is_module_or_import d) (fits_def d) a.0 in
      back_def 500 d b.0 b.1 a.1 c.1

  all_three : (ds : List Def) → list_all is_module_or_import ds ≡ true → list_all fits_def ds ≡ true → list_all nests_little ds ≡ true → list_all fits_packed_def ds ≡ true
  all_three ds a b c = all_and (λ d. is_module_or_import d && fits_def d) nests_little ds (all_and is_module_or_import fits_def ds a b) c

  pub back_body : (p : Packet) → fits_packet p ≡ true → GoodTypes (type_places p) → Back (read_body read_type) (body_bytes type_bytes p) p
  back_body p w g =
      let b = packet_bounds p w in
      let defs = good_left good (flat_map def_parts p.defs) (OfType p.ty ∷ value_parts p.value) g in
      let rest = good_right good (flat_map def_parts p.defs) (OfType p.ty ∷ value_parts p.value) g in
      let good_defs = all_flat good types_in p.defs (ap (list_all good) (sym (defs_as_parts p.defs)) ∙ defs) in
      let value = back_value type_bytes read_type good back_type two_bytes (λ j. j) read_two back_two_bytes (λ j. refl) p.value 500 (le_true (value_nesting p.value) 500 b.nests) b.value (good_rest good p.ty (part_types (value_parts p.value)) rest) in
      back_one a_packet
      (back_pair
      (back_pair (back_list back_packed_def two_bytes p.defs (back_two_bytes (length p.defs) b.few) (all_and fits_packed_def good_def p.defs (all_three p.defs b.kinds b.defs b.defs_nest) good_defs)) (back_type false p.ty b.ty (good_first good p.ty (part_types (value_parts p.value)) rest)))
      (subst (Back (read_value read_type read_two 500) (value_bytes type_bytes two_bytes p.value)) (same_value p.value) value))
