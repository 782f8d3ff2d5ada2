-- One test of all that a definition speaks of, and what is asked of it in another order.
use Rattle.std.proofs.Common.{◌≡◌, refl, sym, ap, ap₂, ◌∙◌, ℕ, suc, ◌+◌, ◌<◌, add-one, drop, drop-cons, get_or, length, Bool, true, false, ◌&&◌, not, List, [], ◌∷◌, ◌++◌, map, flat_map, take}
use Rattle.std.specs.Prelude.{Option, None, Some, nat_lt, is_some, is_none}
use Rattle.std.specs.List.{list_all}
use Rattle.std.specs.Option.{option_map_or}
use Rattle.std.proofs.lemmas.List.Folds.{list_all-append}
use mathlib.Core.Bool.{true≢false}
use Rattle.ac_types.proofs.Same.{both_true, and_true, same_eq, same_refl}
use Rattle.ac_types.specs.Types.{Bytes, Typ, mentions, same, is_small}
use Rattle.ac_types.specs.Partial.{given, first_wrong, has}
use Rattle.ac_terms.specs.Terms.{In}
use Rattle.ac_terms.specs.declared.def.Entry as code
use Rattle.ac_terms.specs.Read.{entry_of}
use Rattle.ac_terms.specs.Defs.{Environment, Entry, Field, Def, AModule, AnImport, AMark, signature_at, declares}
use Rattle.ac_terms.specs.Parts.{Portion, OfType, OfRef, OfHome, Captured, part_refs, part_mentions, has_captured, def_parts, sig_types, term_parts}
use Rattle.ac_terms.specs.Bounds.{has_small_types}
use Rattle.ac_terms.proofs.AllLaws.{all_left}
use Rattle.ac_rules.specs.Views.{Coloured, is_known, are_known, view}
use Rattle.ac_rules.specs.Typing.{type_of, type_seen, of_field}
use Rattle.ac_rules.specs.Modules.{is_valuable, uncovered, is_typed, are_typed, refers_back, mentions_known, is_plain_def, has_distinct_names, has_closed_sig, has_sound_fields, has_sound_likes, is_well_formed}
use Rattle.ac_rules.proofs.PartLaws.{AllPass, pass_right}
use Rattle.ac_rules.proofs.ListLaws.{any_taken}
use Rattle.ac_admit_formed.specs.inner.Back.{passes_back}
use Rattle.ac_admit_formed.specs.inner.Fields.{is_seen_typed, are_seen_typed, has_seen_fields}

shuffled : (s k r m p c : Bool) → ((s && k) && ((r && m) && (p && c))) ≡ ((r && (k && m)) && ((s && p) && c))
shuffled true true r m p c = refl
shuffled true false true m p c = refl
shuffled true false false m p c = refl
shuffled false k false m p c = refl
shuffled false false true m p c = refl
shuffled false true true true p c = refl
shuffled false true true false p c = refl

never : (a b : Bool) → false ≡ (a && (b && false))
never true true = refl
never true false = refl
never false b = refl

regrouped : (x r m q : Bool) → (x && ((r && m) && q)) ≡ (((x && r) && m) && q)
regrouped true r m q = refl
regrouped false r m q = refl

module _ (E : Environment) (i : ℕ) where
  abbrev ref_ok : ℕ → Bool
  ref_ok j = nat_lt j i && is_some (signature_at E j)

  abbrev known : Bytes × Bytes → Bool
  known = is_known (take i E)

  -- what the test asks of all parts
  pub all_back : (ps : List Portion) → list_all (passes_back E i) ps ≡ ((list_all ref_ok (part_refs ps) && list_all known (part_mentions ps)) && (has_small_types ps && not (has_captured ps)))
  all_back [] = refl
  all_back (OfType T ∷ ps) =
      ap (λ b. (is_small T && list_all known (mentions T)) && b) (all_back ps)
      ∙ shuffled (is_small T) (list_all known (mentions T)) (list_all ref_ok (part_refs ps)) (list_all known (part_mentions ps)) (has_small_types ps) (not (has_captured ps))
      ∙ ap (λ b. (list_all ref_ok (part_refs ps) && b) && ((is_small T && has_small_types ps) && not (has_captured ps))) (sym (list_all-append known (mentions T) (part_mentions ps)))
  all_back (OfRef j x ∷ ps) =
      ap (λ b. ref_ok j && b) (all_back ps) ∙ regrouped (ref_ok j) (list_all ref_ok (part_refs ps)) (list_all known (part_mentions ps)) (has_small_types ps && not (has_captured ps))
  all_back (OfHome c ∷ ps) = all_back ps
  all_back (Captured ∷ ps) = never (list_all ref_ok (part_refs ps) && list_all known (part_mentions ps)) (has_small_types ps)

  -- where the names of a type are known, it is looked at as it is viewed
  same_swap : (T U : Typ) → same T U ≡ same U T
  same_swap T U = by (same T U) (same U T) refl refl
    where
      by : (a b : Bool) → same T U ≡ a → same U T ≡ b → a ≡ b
      by true true p q = refl
      by false false p q = refl
      by true false p q = absurd (true≢false (sym (sym (ap (λ V. same V T) (same_eq T U p)) ∙ same_refl T) ∙ q))
      by false true p q = absurd (true≢false (sym (sym (ap (λ V. same V U) (same_eq U T q)) ∙ same_refl U) ∙ p))

  seen_is : (g : ℕ) (f : Field) → are_known E f.ty ≡ true → is_seen_typed E i g f ≡ is_typed E i g f
  seen_is g f k = by (type_of Coloured false E (of_field i g) f.term)
    where
      by : (o : Option Typ) → option_map_or (λ T. has (type_seen Coloured true E (In i) f.ty) T) o false ≡ has o (view Coloured E (In i) f.ty)
      by None = refl
      by (Some T) = ap (λ b. has (given b (Some (view Coloured E (In i) f.ty))) T) k ∙ same_swap (view Coloured E (In i) f.ty) T

  whole : (T : Typ) → list_all known (mentions T) ≡ true → are_known E T ≡ true
  whole T h = every (mentions T) h
    where
      every : (ps : List (Bytes × Bytes)) → list_all known ps ≡ true → list_all (is_known E) ps ≡ true
      every [] e = refl
      every (p ∷ ps) e =
          let q = both_true (known p) (list_all known ps) e in
          and_true {a = is_known E p} {b = list_all (is_known E) ps} (any_taken (declares p.0 p.1) i E q.0) (every ps q.1)

  abbrev field_parts : List Field → List Portion
  field_parts fs = flat_map (λ (f : Field). OfType f.ty ∷ term_parts f.term) fs

  seen_are : (g : ℕ) (fs : List Field) → AllPass known (field_parts fs) → are_seen_typed E i g fs ≡ are_typed E i g fs
  seen_are g [] h = refl
  seen_are g (f ∷ fs) h =
      ap₂ (λ a b. a && b) (seen_is g f (whole f.ty (all_left known (mentions f.ty) (part_mentions (term_parts f.term ++ field_parts fs)) h)))
      (seen_are (suc g) fs (pass_right known (OfType f.ty ∷ term_parts f.term) (field_parts fs) h))

  turned : (v c t : Bool) → ((v && c) && t) ≡ ((v && t) && c)
  turned true true true = refl
  turned true true false = refl
  turned true false true = refl
  turned true false false = refl
  turned false c t = refl

  sound_is : (d : Def) → mentions_known E i d ≡ true → has_seen_fields E i d ≡ has_sound_fields E i d
  sound_is (AModule m) h =
      ap (λ b. (list_all (λ (f : Field). is_valuable f.term) m.fields && is_none (uncovered m)) && b)
      (seen_are 0 m.fields (pass_right known (map OfType (sig_types m.sig) ++ map (λ t. OfType t.ty) m.types) (field_parts m.fields) h))
      ∙ turned (list_all (λ (f : Field). is_valuable f.term) m.fields) (is_none (uncovered m)) (are_typed E i 0 m.fields)
  sound_is (AnImport m) h = refl
  sound_is (AMark t) h = refl

-- in the order of the definition
ordered : (r m p d c l s : Bool) → ((((r && m) && p) && (d && (c && l))) && s) ≡ ((((((r && m) && p) && d) && c) && s) && l)
ordered false m p d c l s = refl
ordered true false p d c l s = refl
ordered true true false d c l s = refl
ordered true true true false c l s = refl
ordered true true true true false l s = refl
ordered true true true true true true true = refl
ordered true true true true true true false = refl
ordered true true true true true false true = refl
ordered true true true true true false false = refl

module _ (E : Environment) (i : ℕ) (d : Def) where
  abbrev pub spoken : Bool
  spoken = list_all (passes_back E i) (def_parts d)

  abbrev pub asked : Bool
  asked = has_distinct_names d && (has_closed_sig d && has_sound_likes d)

  spoken_is : spoken ≡ ((refers_back E i d && mentions_known E i d) && is_plain_def d)
  spoken_is = all_back E i (def_parts d)

  all_asked : (s : Bool) → ((spoken && asked) && s) ≡ ((((((refers_back E i d && mentions_known E i d) && is_plain_def d) && has_distinct_names d) && has_closed_sig d) && s) && has_sound_likes d)
  all_asked s = ap (λ b. (b && asked) && s) spoken_is ∙ ordered (refers_back E i d) (mentions_known E i d) (is_plain_def d) (has_distinct_names d) (has_closed_sig d) (has_sound_likes d) s

  pub not_formed : (spoken && asked) ≡ false → is_well_formed E i d ≡ false
  not_formed h = sym (all_asked (has_sound_fields E i d)) ∙ ap (λ b. b && has_sound_fields E i d) h

  pub formed : (spoken && asked) ≡ true → has_seen_fields E i d ≡ is_well_formed E i d
  formed h =
      let a = both_true _ _ (sym spoken_is ∙ (both_true spoken asked h).0) in
      let k : mentions_known E i d ≡ true = (both_true _ _ a.0).1 in
      sound_is E i d k ∙ sym (ap (λ b. b && has_sound_fields E i d) h) ∙ all_asked (has_sound_fields E i d)

pub ruleset formed_laws = (formed, not_formed)

-- the next definition of a list
drop_next : {A : Type 0} (i : ℕ) (xs : List A) (x : A) → i < length xs → x ≡ get_or xs i x → drop i xs ≡ x ∷ drop (i + 1) xs
drop_next i xs x h e = rw (add-one, drop-cons xs i x) (ap (λ y. y ∷ drop (suc i) xs) (sym e))

abbrev defs_of : List code.Entry → List Def
defs_of xs = map (λ (e : Entry). e.def) (map entry_of xs)

pub wrong_next : (test : ℕ → Def → Bool) (i : ℕ) (xs : List code.Entry) (x : code.Entry) → i < length xs → x ≡ get_or xs i x → test i (entry_of x).def ≡ true → first_wrong i test (defs_of (drop i xs)) ≡ first_wrong (i + 1) test (defs_of (drop (i + 1) xs))
wrong_next test i xs x h e ok =
    ap (λ (ys : List code.Entry). first_wrong i test (defs_of ys)) (drop_next i xs x h e)
    ∙ ap (λ b. elim b as (λ z. Option ℕ) [ true ↦ first_wrong (suc i) test (defs_of (drop (i + 1) xs)) | false ↦ Some i ]) ok
    ∙ ap (λ n. first_wrong n test (defs_of (drop (i + 1) xs))) (sym (add-one i))

pub fits_next : (p : Entry → Bool) (i : ℕ) (xs : List code.Entry) (x : code.Entry) → i < length xs → x ≡ get_or xs i x → list_all p (map entry_of (drop i xs)) ≡ true → list_all p (map entry_of (drop (i + 1) xs)) ≡ true
fits_next p i xs x h e all =
    (both_true (p (entry_of x)) (list_all p (map entry_of (drop (i + 1) xs))) (sym (ap (λ (ys : List code.Entry). list_all p (map entry_of ys)) (drop_next i xs x h e)) ∙ all)).1
