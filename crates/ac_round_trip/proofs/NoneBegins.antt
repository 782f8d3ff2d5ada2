-- No spelling of a type, a pattern, a term, a packed value or a definition begins another of its kind.
use Rattle.std.proofs.Common.{◌≡◌, refl, sym, ap, ◌∙◌, subst, ℕ, ◌<◌, ◌≤◌, ◌^◌, Bool, true, false, ◌&&◌, List, [], ◌∷◌, ◌++◌, length, Some}
use Rattle.std.specs.Prelude.{max, nat_le, unwrap_or, slice_get, option_and_then, option_map}
use Rattle.std.specs.List.{list_all}
use Rattle.std.proofs.lemmas.List.{append_cancel_right}
use native.Mathlib.Omega.{arith}
use Rattle.ac_types.proofs.FirstLaws.{none≢some, some_eq}
use Rattle.ac_types.proofs.Same.{both_true, and_true}
use Rattle.ac_types.specs.Limits.{deepest_nesting}
use Rattle.ac_types.specs.Types.{Bytes, Typ}
use Rattle.ac_types.specs.Sigs.{Typed_name, Signature, Constraint, Ranges, Exact}
use Rattle.ac_terms.specs.Terms.{Pattern, Expr, PValue}
use Rattle.ac_terms.specs.Defs.{Environment, Module, Import, Def, AModule, AnImport, AMark, def_of, name_at}
use Rattle.ac_terms.specs.Names.{text_of_def, text_of_entry}
use Rattle.ac_terms.specs.Nesting.{pattern_nesting, nesting, value_nesting}
use Rattle.ac_terms.specs.Parts.{pattern_types, part_types, sig_types, term_parts, value_parts, def_parts}
use Rattle.ac_terms.specs.Spelling.{two_written, type_bytes, pattern_bytes, term_bytes, value_bytes, def_bytes, module_bytes, import_bytes, text_of_import, typed_bytes}
use Rattle.ac_terms.specs.SpelledBy as by
use Rattle.ac_terms.specs.Bounds.{fits_type, fits_pattern, fits_term, fits_value, fits_typed, fits_def, is_four, is_module_or_import, def_nesting, nests_little}
use Rattle.ac_terms.specs.Tables.{is_among, number_in, numbered}
use Rattle.ac_terms.specs.TableReading.{read_number}
use Rattle.ac_terms.specs.PacketReading.{ReadsPart, one, pair, tagged, nothing, read_two, read_word, read_name, read_list, read_constraint, read_type, read_pattern, read_term, read_value, read_def, read_sig, read_typed}
use Rattle.ac_terms.proofs.AllLaws.{all_true}
use Rattle.ac_terms.proofs.TestLaws.{le_true, le_is, lt_is}
use Rattle.ac_terms.proofs.TableLaws.{number_there, number_below}
use Rattle.ac_terms.proofs.BoundsLaws.{import_bounds}
use Rattle.ac_terms.proofs.PartTypes.{module_types}
use Rattle.ac_terms.proofs.RenumberedLaws.{same_term, same_value}
use Rattle.ac_terms.proofs.Back.{Back, back_one, back_word, back_name, back_list, back_two_bytes, back_four_bytes, none_begins}
use Rattle.ac_terms.proofs.TypeBack.{back_type}
use Rattle.ac_terms.proofs.TermBack.{any, back_any, back_pattern, back_term, back_value, count_two}
use Rattle.ac_terms.proofs.DefBackBy as generic
use Rattle.ac_terms.proofs.DefBackBy.{back_pair, back_constraint}
use Rattle.ac_terms.proofs.DefBack.{def-none_begins}
use Rattle.ac_terms.proofs.TableBack as tabled
use Rattle.ac_rules.specs.Coherent.{IsCoherent}
use Rattle.ac_rules.proofs.Rules.{then_some}
use Rattle.ac_rules.proofs.Unspoken.{shown, padded_named, text_shown}
use Rattle.ac_round_trip.specs.Beginnings.{NoneBegins}

-- in packets with types in full
pub types : (own : Bool) → NoneBegins (fits_type own) type_bytes
types own T U r s h k e = none_begins read_type (back_type own T h) (back_type own U k) r s e

pub patterns : NoneBegins fits_pattern pattern_bytes
patterns p q r s h k e =
    let n : ℕ = max (pattern_nesting p) (pattern_nesting q) in
    none_begins (read_pattern n) (back_pattern p n (omega arith) h) (back_pattern q n (omega arith) k) r s e

read_back : (within : Bool) (t : Expr) (n : ℕ) → nesting t ≤ n → fits_term within t ≡ true → Back (read_term read_two n) (term_bytes two_written t) t
read_back within t n l h = subst (Back (read_term read_two n) (term_bytes two_written t)) (same_term t) (back_term two_written (λ j. j) read_two back_two_bytes within (λ e j. refl) t n l h)

pub terms : (within : Bool) → NoneBegins (fits_term within) (term_bytes two_written)
terms within t u r s h k e =
    let n : ℕ = max (nesting t) (nesting u) in
    none_begins (read_term read_two n) (read_back within t n (omega arith) h) (read_back within u n (omega arith) k) r s e

value_back : (v : PValue) (n : ℕ) → value_nesting v ≤ n → fits_value v ≡ true → Back (read_value read_two n) (value_bytes two_written v) v
value_back v n l h = subst (Back (read_value read_two n) (value_bytes two_written v)) (same_value v) (back_value two_written (λ j. j) read_two back_two_bytes (λ j. refl) v n l h)

pub values : NoneBegins fits_value (value_bytes two_written)
values v u r s h k e =
    let n : ℕ = max (value_nesting v) (value_nesting u) in
    none_begins (read_value read_two n) (value_back v n (omega arith) h) (value_back u n (omega arith) k) r s e

-- the deepest of some
abbrev deepest : List ℕ → ℕ
deepest [] = 0
deepest (n ∷ ns) = max n (deepest ns)

all_within : (ns : List ℕ) (most : ℕ) → deepest ns ≤ most → list_all (λ n. nat_le n most) ns ≡ true
all_within [] most h = refl
all_within (n ∷ ns) most h = and_true {a = nat_le n most} {b = list_all (λ m. nat_le m most) ns} (le_is n most (omega arith)) (all_within ns most (omega arith))

abbrev is_def : Def → Bool
is_def d = is_module_or_import d && fits_def d

pub definitions : NoneBegins is_def def_bytes
definitions d c r s h k e =
    let a = both_true (is_module_or_import d) (fits_def d) h in
    let b = both_true (is_module_or_import c) (fits_def c) k in
    let n : ℕ = max (deepest (def_nesting d)) (deepest (def_nesting c)) in
    def-none_begins n d c r s a.0 b.0 a.1 b.1 (all_within (def_nesting d) n (omega arith)) (all_within (def_nesting c) n (omega arith)) e

-- canonical texts, which spell a reference by a name of 32 bytes
same_front : (a b r s : Bytes) → a ++ r ≡ b ++ s → r ≡ s → (a ≡ b) × (r ≡ s)
same_front a b r s e q = (append_cancel_right a b s (sym (ap (λ x. a ++ x) q) ∙ e), q)

abbrev read_reference : ReadsPart ℕ
read_reference = one (λ b. 0) read_name

module_back : (E : Environment) (coherent : IsCoherent E) (n : ℕ) (m : Module) → fits_def (AModule m) ≡ true → list_all (λ k. nat_le k n) (def_nesting (AModule m)) ≡ true → (d : Def) × Back (read_def read_reference n) (module_bytes (shown E coherent) m) d
module_back E coherent n m w h = (
  _,
  generic.back_module type_bytes read_type any back_any read_reference (shown E coherent) (λ k. 0) (λ k i. back_one (λ b. 0) (back_name (shown E coherent k) (padded_named (unwrap_or (name_at E k) [])))) n m w h (all_true (module_types m)),
)

abbrev read_import_text : ReadsPart (((Bytes × Signature) × Constraint) × List Typed_name)
read_import_text bs = tagged (nothing ∷ nothing ∷ pair (pair (pair read_word read_sig) read_constraint) (read_list read_two read_typed) ∷ []) bs

likes_back : (x : Typed_name) → fits_typed false x ≡ true → Back read_typed (typed_bytes x) x
likes_back x w = generic.back_typed type_bytes read_type any back_any false x (and_true {a = fits_typed false x} {b = true} w refl)

import_back : (i : Import) → fits_def (AnImport i) ≡ true → Back read_import_text (import_bytes i) (((i.name, i.sig), i.constraint), i.like)
import_back i w =
    let b = import_bounds i w in
    record {
      reads = (back_pair
          (back_pair (back_pair (back_word i.name) (generic.back_sig type_bytes read_type any back_any i.sig b.sig (all_true (sig_types i.sig)))) (back_constraint i.constraint b.constraint))
          (back_list likes_back two_written i.like (back_two_bytes (length i.like) (count_two (length i.like) b.few_likes)) b.likes)).reads;
    }

import_text : (i : Import) (c : Constraint) (a : Bytes) → text_of_import c i ≡ Some a → import_bytes i ≡ a
import_text i (Ranges rs star) a e = some_eq e
import_text i (Exact n) a e = absurd (none≢some e)

module _ (E F : Environment) (E_coherent : IsCoherent E) (F_coherent : IsCoherent F) (i j : ℕ) (a b r s : Bytes) (same : a ++ r ≡ b ++ s) where
  two_modules : (m n : Module) → def_of E i ≡ Some (AModule m) → def_of F j ≡ Some (AModule n) → text_of_def E (AModule m) ≡ Some a → text_of_def F (AModule n) ≡ Some b → r ≡ s
  two_modules m n p q x y =
      let v = E_coherent.within_bounds i (AModule m) p in
      let w = F_coherent.within_bounds j (AModule n) q in
      let k : ℕ = max (deepest (def_nesting (AModule m))) (deepest (def_nesting (AModule n))) in
      let c : module_bytes (shown E E_coherent) m ≡ a = some_eq (sym (text_shown E E_coherent i (AModule m) v (E_coherent.refers i (AModule m) p)) ∙ x) in
      let d : module_bytes (shown F F_coherent) n ≡ b = some_eq (sym (text_shown F F_coherent j (AModule n) w (F_coherent.refers j (AModule n) q)) ∙ y) in
      (none_begins (read_def read_reference k) (module_back E E_coherent k m v (all_within (def_nesting (AModule m)) k (omega arith))).1 (module_back F F_coherent k n w (all_within (def_nesting (AModule n)) k (omega arith))).1 r s
      (ap (λ z. z ++ r) c ∙ same ∙ ap (λ z. z ++ s) (sym d))).1

  two_imports : (m n : Import) → def_of E i ≡ Some (AnImport m) → def_of F j ≡ Some (AnImport n) → text_of_def E (AnImport m) ≡ Some a → text_of_def F (AnImport n) ≡ Some b → r ≡ s
  two_imports m n p q x y =
      (none_begins read_import_text (import_back m (E_coherent.within_bounds i (AnImport m) p)) (import_back n (F_coherent.within_bounds j (AnImport n) q)) r s
      (ap (λ z. z ++ r) (import_text m m.constraint a x) ∙ same ∙ ap (λ z. z ++ s) (sym (import_text n n.constraint b y)))).1

  not_both : (m n : Bytes) → (1 ∷ m) ≡ a → (2 ∷ n) ≡ b → ⊥
  not_both m n p q = let e : (1 ∷ (m ++ r)) ≡ (2 ∷ (n ++ s)) = ap (λ z. z ++ r) p ∙ same ∙ ap (λ z. z ++ s) (sym q) in absurd cc

  not_either : (m n : Bytes) → (2 ∷ m) ≡ a → (1 ∷ n) ≡ b → ⊥
  not_either m n p q = let e : (2 ∷ (m ++ r)) ≡ (1 ∷ (n ++ s)) = ap (λ z. z ++ r) p ∙ same ∙ ap (λ z. z ++ s) (sym q) in absurd cc

  by_kind : (d c : Def) → def_of E i ≡ Some d → def_of F j ≡ Some c → text_of_def E d ≡ Some a → text_of_def F c ≡ Some b → r ≡ s
  by_kind (AModule m) (AModule n) p q x y = two_modules m n p q x y
  by_kind (AnImport m) (AnImport n) p q x y = two_imports m n p q x y
  by_kind (AModule m) (AnImport n) p q x y = absurd (not_both _ _ (some_eq x) (import_text n n.constraint b y))
  by_kind (AnImport m) (AModule n) p q x y = absurd (not_either _ _ (import_text m m.constraint a x) (some_eq y))
  by_kind (AMark t) c p q x y = absurd (none≢some x)
  by_kind d (AMark t) p q x y = absurd (none≢some y)

pub texts : (E F : Environment) (i j : ℕ) (a b r s : Bytes) → IsCoherent E → IsCoherent F → text_of_entry E i ≡ Some a → text_of_entry F j ≡ Some b → a ++ r ≡ b ++ s → (a ≡ b) × (r ≡ s)
texts E F i j a b r s x y p q e =
    let d = then_some (text_of_def E) (def_of E i) a p in
    let c = then_some (text_of_def F) (def_of F j) b q in
    same_front a b r s e (by_kind E F x y i j a b r s e d.0 c.0 d.1 c.1 d.2 c.2)

-- under one table of types
module _ (table : List Typ) (few : length table < 2 ^ 32) where
  number_back : (T : Typ) → is_among table T ≡ true → Back (read_number table) (numbered table T) T
  number_back T h =
      let n : ℕ = number_in table T in
      let low : is_four n ≡ true = lt_is n (2 ^ 32) (omega (arith, number_below table T h, few)) in
      record {
        reads = λ r. ap (option_and_then (λ (p : ℕ × Bytes). option_map (λ U. (U, p.1)) (slice_get table p.0))) ((back_four_bytes n low).reads r) ∙ ap (option_map (λ U. (U, r))) (number_there table T h);
      }

  pub tabled_types : NoneBegins (is_among table) (numbered table)
  tabled_types T U r s h k e = none_begins (read_number table) (number_back T h) (number_back U k) r s e

  abbrev pattern_passes : Pattern → Bool
  pattern_passes p = fits_pattern p && nat_le (pattern_nesting p) deepest_nesting && list_all (is_among table) (pattern_types p)

  pub tabled_patterns : NoneBegins pattern_passes (by.pattern_bytes (numbered table))
  tabled_patterns p q r s h k e =
      let a = both_true (fits_pattern p && nat_le (pattern_nesting p) deepest_nesting) (list_all (is_among table) (pattern_types p)) h in
      let b = both_true (fits_pattern p) (nat_le (pattern_nesting p) deepest_nesting) a.0 in
      let c = both_true (fits_pattern q && nat_le (pattern_nesting q) deepest_nesting) (list_all (is_among table) (pattern_types q)) k in
      let d = both_true (fits_pattern q) (nat_le (pattern_nesting q) deepest_nesting) c.0 in
      tabled.pattern-none_begins table few p q r s (le_true (pattern_nesting p) deepest_nesting b.1) (le_true (pattern_nesting q) deepest_nesting d.1) b.0 d.0 a.1 c.1 e

  abbrev term_passes : Bool → Expr → Bool
  term_passes within t = fits_term within t && nat_le (nesting t) deepest_nesting && list_all (is_among table) (part_types (term_parts t))

  pub tabled_terms : (within : Bool) → NoneBegins (term_passes within) (by.term_bytes (numbered table) two_written)
  tabled_terms within t u r s h k e =
      let a = both_true (fits_term within t && nat_le (nesting t) deepest_nesting) (list_all (is_among table) (part_types (term_parts t))) h in
      let b = both_true (fits_term within t) (nat_le (nesting t) deepest_nesting) a.0 in
      let c = both_true (fits_term within u && nat_le (nesting u) deepest_nesting) (list_all (is_among table) (part_types (term_parts u))) k in
      let d = both_true (fits_term within u) (nat_le (nesting u) deepest_nesting) c.0 in
      tabled.term-none_begins table few within t u r s (le_true (nesting t) deepest_nesting b.1) (le_true (nesting u) deepest_nesting d.1) b.0 d.0 a.1 c.1 e

  abbrev value_passes : PValue → Bool
  value_passes v = fits_value v && nat_le (value_nesting v) deepest_nesting && list_all (is_among table) (part_types (value_parts v))

  pub tabled_values : NoneBegins value_passes (by.value_bytes (numbered table) two_written)
  tabled_values v u r s h k e =
      let a = both_true (fits_value v && nat_le (value_nesting v) deepest_nesting) (list_all (is_among table) (part_types (value_parts v))) h in
      let b = both_true (fits_value v) (nat_le (value_nesting v) deepest_nesting) a.0 in
      let c = both_true (fits_value u && nat_le (value_nesting u) deepest_nesting) (list_all (is_among table) (part_types (value_parts u))) k in
      let d = both_true (fits_value u) (nat_le (value_nesting u) deepest_nesting) c.0 in
      tabled.value-none_begins table few v u r s (le_true (value_nesting v) deepest_nesting b.1) (le_true (value_nesting u) deepest_nesting d.1) b.0 d.0 a.1 c.1 e

  abbrev def_passes : Def → Bool
  def_passes d = is_module_or_import d && fits_def d && nests_little d && list_all (is_among table) (part_types (def_parts d))

  record DefPasses (d : Def) : Type 0 where
    kind : is_module_or_import d ≡ true
    fits : fits_def d ≡ true
    little : nests_little d ≡ true
    among : list_all (is_among table) (part_types (def_parts d)) ≡ true

  def_passed : (d : Def) → def_passes d ≡ true → DefPasses d
  def_passed d h =
      let a = both_true (is_module_or_import d && fits_def d && nests_little d) (list_all (is_among table) (part_types (def_parts d))) h in
      let b = both_true (is_module_or_import d && fits_def d) (nests_little d) a.0 in
      let c = both_true (is_module_or_import d) (fits_def d) b.0 in
      record { kind = c.0; fits = c.1; little = b.1; among = a.1 }

  pub tabled_definitions : NoneBegins def_passes (by.def_bytes (numbered table))
  tabled_definitions d c r s h k e =
      let a = def_passed d h in
      let b = def_passed c k in
      tabled.def-none_begins table few d c r s a.kind b.kind a.fits b.fits a.little b.little a.among b.among e
