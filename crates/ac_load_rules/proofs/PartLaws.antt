-- What holds of the entries of a part that no cause refuses: its fields are sound, its imports are linked, and entries of one name have one text.
use Rattle.std.proofs.Common.{◌≡◌, ◌∙◌, ◌⊎◌, inl, inr, ◌<◌, ℕ, zero, suc, ◌+◌, Bool, true, false, List, [], ◌∷◌, length, Option, Some, None, refl, sym, ap, ap₂, subst, arith, option_map, slice_get}
use Rattle.std.specs.Prelude.{not, ◌&&◌, is_none, option_and_then}
use Rattle.std.specs.Option.{option_map_or, option_or}
use Rattle.std.proofs.lemmas.Bool.{cases_order}
use Rattle.std.proofs.lemmas.Option.{slice_get_within}
use Rattle.ac_types.specs.Partial.{given, differ}
use Rattle.ac_types.specs.Types.{Bytes, same_bytes}
use Rattle.ac_types.proofs.FirstLaws.{none≢some, some_eq}
use Rattle.ac_types.proofs.Same.{and_true, bytes_eq, bytes_refl}
use Rattle.ac_terms.specs.Defs.{Environment, Entry, Field, Import, Def, AModule, AnImport, AMark, Seen, Own', name_at, names}
use Rattle.ac_terms.specs.Names.{text_of_entry}
use Rattle.ac_rules.specs.Links.{is_exact}
use Rattle.ac_rules.proofs.Rules.{map_none, given_none}
use Rattle.ac_rules.proofs.ListLaws.{all_of_none}
use Rattle.ac_rules.specs.Modules.{is_valuable, uncovered, like_missing, are_typed, has_sound_fields}
use Rattle.ac_syntax.specs.Trees.{ProgramTree}
use Rattle.ac_resolve_scopes.specs.Surfaces.{surface_fault, first_unbound, first_repeated, least_passed}
use Rattle.ac_load_rules.specs.Causes.{Uncovered, NotValuable, LikeMissing, Clash, first_at, first_below, ill_typed, uncovering, not_valuable, without_likespec, unlinked, entries_clash, clash_of, first_entry_clash, loaded, added, main_type, refusal_cause}

-- where nothing is found, nothing was found before
pub none_of_two : {A : Type 0} (a b : Option A) → option_or a b ≡ None → (a ≡ None) × (b ≡ None)
none_of_two None b h = (refl, h)
none_of_two (Some x) b h = absurd (none≢some (sym h))

not_not : (b : Bool) → not b ≡ false → b ≡ true
not_not true h = refl
not_not false h = sym h

pub none_at : {A : Type 0} (k : ℕ) (f : ℕ → Entry → Option A) (es : List Entry) → first_at k f es ≡ None → (i : ℕ) (e : Entry) → slice_get es i ≡ Some e → (n : ℕ) → n ≡ k + i → f n e ≡ None
none_at k f [] h i e is n same = absurd (none≢some is)
none_at {A} k f (x ∷ es) h zero e is n same =
    let there : k ≡ n = omega (arith, same) in
    subst (λ (m : ℕ). f m e ≡ None) there (subst (λ (y : Entry). f k y ≡ None) (some_eq is) (none_of_two (f k x) _ h).0)
none_at k f (x ∷ es) h (suc i) e is n same = none_at (suc k) f es (none_of_two (f k x) _ h).1 i e is n (omega (arith, same))

none_below : {A : Type 0} (n : ℕ) (f : ℕ → Option A) → first_below n f ≡ None → (k : ℕ) → k < n → f k ≡ None
none_below zero f h k lt = absurd (omega (arith, lt))
none_below {A} (suc n) f h k lt = on (none_below n f (none_of_two (first_below n f) (f n) h).0 k) (cases_order k n) where
  on : (k < n → f k ≡ None) → (k ≡ n) ⊎ ((k < n) ⊎ (n < k)) → f k ≡ None
  on earlier (inl is) = ap f is ∙ (none_of_two (first_below n f) (f n) h).1
  on earlier (inr (inl before)) = earlier before
  on earlier (inr (inr after)) = absurd (omega (arith, lt, after))

-- entries of one name have one text
same_text : (s t : Bytes) → not (same_bytes s t) ≡ false → s ≡ t
same_text s t h = bytes_eq s t (not_not (same_bytes s t) h)

no_clash_says : (E : Environment) (i j : ℕ) (n s t : Bytes) → entries_clash E i j ≡ false → name_at E i ≡ Some n → name_at E j ≡ Some n → text_of_entry E i ≡ Some s → text_of_entry E j ≡ Some t → s ≡ t
no_clash_says E i j n s t h a b c d = same_text s t (sym there ∙ h) where
  there : entries_clash E i j ≡ not (same_bytes s t)
  there =
      ap₂ (λ o q. option_map_or (names o) q false && differ (text_of_entry E i) (text_of_entry E j)) a b
      ∙ ap₂ (λ o q. same_bytes n n && differ o q) c d
      ∙ ap (λ x. x && not (same_bytes s t)) (bytes_refl n)

name_within : (E : Environment) (i : ℕ) (n : Bytes) → name_at E i ≡ Some n → i < length E
name_within E i n h = on (slice_get E i) refl where
  on : (o : Option Entry) → slice_get E i ≡ o → i < length E
  on None is = absurd (none≢some (sym (ap (option_and_then (λ (e : Entry). e.name)) is) ∙ h))
  on (Some e) is = slice_get_within E i e is

pub one_text : (E : Environment) → first_entry_clash E ≡ None → (i j : ℕ) (n s t : Bytes) → name_at E i ≡ Some n → name_at E j ≡ Some n → text_of_entry E i ≡ Some s → text_of_entry E j ≡ Some t → s ≡ t
one_text E h i j n s t a b c d = on (cases_order i j) where
  apart : (k l : ℕ) → k < l → l < length E → entries_clash E k l ≡ false
  apart k l lt within = given_none (entries_clash E k l) _ (none_below l (λ first. given (entries_clash E first l) (Some (Clash first l))) (none_below (length E) (clash_of E) h l within) k lt)

  on : (i ≡ j) ⊎ ((i < j) ⊎ (j < i)) → s ≡ t
  on (inl is) = some_eq (sym c ∙ ap (text_of_entry E) is ∙ d)
  on (inr (inl lt)) = no_clash_says E i j n s t (apart i j lt (name_within E j n b)) a b c d
  on (inr (inr lt)) = sym (no_clash_says E j i n t s (apart j i lt (name_within E i n a)) b a d c)

-- an entry that no cause refuses
abbrev bare_entry : Def → Option ℕ → Entry
bare_entry d link = record { def = d; name = None; seen = Own'; link = link }

fields_sound : (F : Environment) (n k : ℕ) (d : Def)
    → ill_typed F n k (bare_entry d None) ≡ None → uncovering k (bare_entry d None) ≡ None → not_valuable k (bare_entry d None) ≡ None → has_sound_fields F (n + k) d ≡ true
fields_sound F n k (AModule m) t u v =
    and_true
    (and_true (all_of_none (λ (f : Field). is_valuable f.term) m.fields (map_none (NotValuable k) _ v)) (not_not (are_typed F (n + k) 0 m.fields) (given_none _ _ t)))
    (ap is_none (map_none (Uncovered k) (uncovered m) u))
fields_sound F n k (AnImport i) t u v = refl
fields_sound F n k (AMark s) t u v = refl

pub likes_sound : (k : ℕ) (i : Import) → without_likespec k (bare_entry (AnImport i) None) ≡ None → is_exact i.constraint ≡ false → is_none (like_missing i) ≡ true
likes_sound k i h version =
    ap is_none (map_none (LikeMissing k) (like_missing i) (sym (ap (λ b. given (not b) (option_map (LikeMissing k) (like_missing i))) version) ∙ h))

-- of a part: the tests of its entries
module _ (digest : Bytes → Bytes) (E : Environment) (seen : Seen) (p : ProgramTree) where
  pub record Sound : Type 0 where
    pub scopes : surface_fault digest E p ≡ None
    pub typed : first_at 0 (ill_typed (loaded digest E seen p) (length E)) (added digest E seen p) ≡ None
    pub main : is_none (main_type digest E seen p) ≡ false
    pub covered : first_at 0 uncovering (added digest E seen p) ≡ None
    pub valuable : first_at 0 not_valuable (added digest E seen p) ≡ None
    pub like : first_at 0 without_likespec (added digest E seen p) ≡ None
    pub linked : first_at 0 unlinked (added digest E seen p) ≡ None
    pub apart : first_entry_clash (loaded digest E seen p) ≡ None

  pub sound : refusal_cause digest E seen p ≡ None → Sound
  sound h =
      let a = none_of_two _ _ h in
      let b = none_of_two _ _ a.1 in
      let c = none_of_two _ _ b.1 in
      let d = none_of_two _ _ c.1 in
      let e = none_of_two _ _ d.1 in
      let f = none_of_two _ _ e.1 in
      let g = none_of_two _ _ f.1 in
      let i = none_of_two _ _ g.1 in
      record {
        scopes = map_none _ _ a.0;
        typed = b.0;
        main = given_none _ _ c.0;
        covered = d.0;
        valuable = e.0;
        like = f.0;
        linked = g.0;
        apart = i.0;
      }

  -- each name is in scope, nothing is repeated, no count passes its limit
  pub record Scoped : Type 0 where
    pub bound : first_unbound digest E p ≡ None
    pub distinct : first_repeated digest E p ≡ None
    pub within : least_passed digest E p ≡ None

  pub scoped : surface_fault digest E p ≡ None → Scoped
  scoped h =
      let a = none_of_two _ _ h in
      let b = none_of_two _ _ a.1 in
      let c = none_of_two _ _ b.1 in
      record { bound = map_none _ _ a.0; distinct = map_none _ _ b.0; within = map_none _ _ c.0 }

  pub fields_of_part : refusal_cause digest E seen p ≡ None → (k : ℕ) (e : Entry) → slice_get (added digest E seen p) k ≡ Some e → has_sound_fields (loaded digest E seen p) (length E + k) e.def ≡ true
  fields_of_part h k e is =
      let s = sound h in
      fields_sound (loaded digest E seen p) (length E) k e.def
      (none_at 0 _ _ s.typed k e is k (omega arith)) (none_at 0 _ _ s.covered k e is k (omega arith)) (none_at 0 _ _ s.valuable k e is k (omega arith))
