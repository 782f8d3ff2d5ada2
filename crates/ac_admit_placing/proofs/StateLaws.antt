-- What holds of the places of the code, after one more.
use Rattle.std.proofs.Common.{◌≡◌, refl, sym, ap, ap₂, ◌∙◌, subst, ℕ, zero, suc, ◌+◌, ◌≤◌, ◌<◌, Bool, true, false, not, List, [], ◌∷◌, ◌++◌, map, length, Option, Some, None, append_assoc, append-nil, length-append}
use Rattle.std.specs.Prelude.{unwrap_or, slice_get, option_map, option_and_then}
use mathlib.Core.Path.{fun_ext}
use Rattle.std.proofs.lemmas.Bool.Decides.{nat_tests}
use Rattle.sha2.specs.Sha256.{sha256}
use Rattle.ac_types.proofs.FirstLaws.{none≢some, some_eq}
use Rattle.std.specs.List.{list_all, list_any}
use Rattle.std.specs.Option.{option_or}
use Rattle.std.proofs.lemmas.List.{map-append, length-map}
use native.Mathlib.Omega.{arith}
use Rattle.ac_types.proofs.Same.{and_true}
use Rattle.ac_types.specs.Types.{Bytes, same_bytes}
use Rattle.ac_types.specs.Partial.{given}
use Rattle.ac_terms.specs.declared.def.Entry as code
use Rattle.ac_terms.specs.Defs.{Environment, Entry, Module, Import, Def, AModule, AnImport, AMark, Arrived}
use Rattle.ac_terms.specs.Names.{name_by}
use Rattle.ac_terms.specs.Parts.{part_refs, def_parts}
use Rattle.ac_terms.specs.Renumbered.{def_renumbered}
use Rattle.ac_terms.specs.Bounds.{is_four}
use Rattle.ac_terms_renumber.specs.Numbers.{number_for}
use Rattle.ac_rules.specs.Coherent.{IsCoherent, IsLinked, link_at}
use Rattle.ac_rules.specs.Links.{linked, InPacket, is_exact}
use Rattle.ac_rules.proofs.ViewLaws.{within}
use Rattle.ac_terms.specs.Read.{entry_of, def_of_code, name_of_code}
use Rattle.ac_terms.specs.declared.def.Def as code_def
use Rattle.ac_terms.specs.declared.def.Seen as code_seen
use Rattle.ac_types.specs.declared.text.Name.{Name}
use Rattle.ac_terms.proofs.AllLaws.{all_append}
use Rattle.ac_terms.proofs.TestLaws.{not_true, not_false}
use Rattle.ac_rules.specs.Packets.{Place, Placed, placed_number, is_unresolved, find_def, put, placed_there, found_or_put, place_exact, place_ranges, place}
use Rattle.ac_rules.proofs.ListLaws.{all_at, length_more}
use Rattle.ac_admit_placing.specs.declared.places.Place as code_place
use Rattle.ac_admit_placing.specs.declared.placing.Placing.{Placing}
use Rattle.ac_admit_placing.specs.inner.Keys.{key_bytes, keyed, is_short}
use Rattle.ac_admit_placing.specs.inner.Maps.{Key, key_found}
use Rattle.ac_admit_placing.specs.inner.Open.{place_of}
use Rattle.ac_admit_placing.specs.Placed.{state_of, place_number}
use Rattle.ac_admit_placing.specs.inner.State.{has_short_link, IsSound}
use Rattle.ac_admit_placing.proofs.FindLaws.{keys_next}
use Rattle.ac_admit_placing.proofs.KeyLaws.{keyed_is}

-- one more behind what stays
pub behind : {A : Type 0} (xs ys zs : List A) (x : A) → ys ≡ xs → zs ≡ ys ++ x ∷ [] → zs ≡ xs ++ x ∷ []
behind xs ys zs x e h = h ∙ ap (λ l. l ++ x ∷ []) e

module _ (E : Environment) (old new : Placing) (sound : IsSound E old) (at : Option ℕ) (u : Bool) where
  abbrev q : code_place.Place
  q = record { at = at; unresolved = u }

  pub places_more : new.places ≡ old.places ++ q ∷ [] → map place_of new.places ≡ map place_of old.places ++ place_of q ∷ []
  places_more p = ap (map place_of) p ∙ map-append place_of old.places (q ∷ [])

  pub numbers_more : new.numbers ≡ old.numbers ++ unwrap_or at 0 ∷ [] → new.places ≡ old.places ++ q ∷ [] → new.numbers ≡ map place_number (map place_of new.places)
  numbers_more n p = n ∙ ap (λ xs. xs ++ unwrap_or at 0 ∷ []) sound.numbers ∙ sym (ap (map place_number) (places_more p) ∙ map-append place_number (map place_of old.places) (place_of q ∷ []))

  -- a place without a new entry
  pub stays : new.numbers ≡ old.numbers ++ unwrap_or at 0 ∷ [] → new.places ≡ old.places ++ q ∷ [] → new.more ≡ old.more → new.keys ≡ old.keys → IsSound E new
  stays n p m k = record {
    numbers = numbers_more n p;
    keys = λ x. ap (λ ks. key_found ks x) k ∙ sound.keys x ∙ ap (λ es. keyed (E ++ map entry_of es) x.items) (sym m);
    short = ap (λ es. list_all has_short_link (E ++ map entry_of es)) m ∙ sound.short;
    few = let a = ap length m in let b = ap length p in omega (arith, a, b, sound.few, length_more old.places q);
  }

  pub stays_state : new.places ≡ old.places ++ q ∷ [] → new.more ≡ old.more → state_of E new ≡ ((state_of E old).0, (state_of E old).1 ++ place_of q ∷ [])
  stays_state p m = ap₂ (λ es (ps : List Place). (E ++ map entry_of es, ps)) m (places_more p)

-- a new entry
module _ (E : Environment) (old new : Placing) (sound : IsSound E old) (d : code_def.Def) (m : Option Name) (l : Option ℕ) (u : Bool) (key : Bytes) (n : ℕ) where
  abbrev X : Environment
  X = E ++ map entry_of old.more

  abbrev e : code.Entry
  e = record { def = d; name = m; seen = code_seen.Seen.Arrived; link = l }

  grown : new.more ≡ old.more ++ e ∷ [] → E ++ map entry_of new.more ≡ X ++ entry_of e ∷ []
  grown h = ap (λ es. E ++ map entry_of es) h ∙ ap (λ es. E ++ es) (map-append entry_of old.more (e ∷ [])) ∙ sym (append_assoc E (map entry_of old.more) (entry_of e ∷ []))

  many : n ≡ length E + length old.more → length X ≡ n
  many h = length-append E (map entry_of old.more) ∙ ap (λ k. length E + k) (length-map old.more entry_of) ∙ sym h

  pub put_sound : is_short l ≡ true → key ≡ key_bytes (def_of_code d) l → n ≡ length E + length old.more → new.more ≡ old.more ++ e ∷ [] → new.numbers ≡ old.numbers ++ n ∷ [] →
      new.places ≡ old.places ++ record { at = Some n; unresolved = u } ∷ [] → ((k : Key) → key_found new.keys k ≡ option_or (key_found old.keys k) (given (same_bytes key k.items) (Some n))) → IsSound E new
  put_sound s is h more num p k = record {
    numbers = numbers_more E old new sound (Some n) u num p;
    keys = λ x. keys_next X (entry_of e) n (many h) (key_found old.keys) (key_found new.keys) sound.keys key is k x ∙ ap (λ Y. keyed Y x.items) (sym (grown more));
    short = ap (list_all has_short_link) (grown more) ∙ all_append has_short_link X (entry_of e ∷ []) sound.short (and_true {a = is_short l} {b = true} s refl);
    few = let a = ap length more in let b = ap length p in omega (arith, a, b, sound.few, length_more old.more e, length_more old.places (record { at = Some n; unresolved = u }));
  }

  pub put_state : option_map name_of_code m ≡ name_by sha256 X (def_of_code d) → n ≡ length E + length old.more → new.more ≡ old.more ++ e ∷ [] → new.places ≡ old.places ++ record { at = Some n; unresolved = u } ∷ [] →
      state_of E new ≡ put sha256 (state_of E old) (def_of_code d) l u
  put_state named h more p =
      ap₂ (λ es (ps : List Place). (es, ps))
      (grown more ∙ ap (λ (o : Option Bytes). X ++ record { def = def_of_code d; name = o; seen = Arrived; link = l } ∷ []) named)
      (places_more E old new sound (Some n) u p ∙ ap (λ k. map place_of old.places ++ record { at = Some k; unresolved = u } ∷ []) (sym (many h)))

-- what the map has for a definition's key is the least entry that equals it
pub found_is : (E : Environment) (p : Placing) → IsSound E p → (d : Def) (l : Option ℕ) → is_short l ≡ true → (k : Key) → k.items ≡ key_bytes d l → key_found p.keys k ≡ find_def (state_of E p).0 d l
found_is E p sound d l s k is =
    let X = E ++ map entry_of p.more in
    sound.keys k ∙ ap (keyed X) is ∙ keyed_is X (λ j e g. all_at has_short_link X j e sound.short g) d l s

-- the number of a definition's place
pub number_is : (ps : List Place) (k : ℕ) → unwrap_or (slice_get (map place_number ps) k) 0 ≡ placed_number ps k
number_is [] k = refl
number_is (q ∷ ps) zero = refl
number_is (q ∷ ps) (suc k) = number_is ps k

pub numbers_are : (E : Environment) (p : Placing) → IsSound E p → number_for p.numbers ≡ placed_number (state_of E p).1
numbers_are E p sound = ap number_for sound.numbers ∙ fun_ext (number_is (map place_of p.places))

-- a definition that is found, and one that isn't
pub found_state : (s : Placed) (d : Def) (l : Option ℕ) (j : ℕ) → find_def s.0 d l ≡ Some j → found_or_put sha256 s d l ≡ placed_there sha256 s j
found_state s d l j h = ap (λ o. elim o as (λ z. Placed) [ Some k ↦ placed_there sha256 s k | None ↦ put sha256 s d l false ]) h

pub unfound_state : (s : Placed) (d : Def) (l : Option ℕ) → find_def s.0 d l ≡ None → found_or_put sha256 s d l ≡ put sha256 s d l false
unfound_state s d l h = ap (λ o. elim o as (λ z. Placed) [ Some k ↦ placed_there sha256 s k | None ↦ put sha256 s d l false ]) h

-- an import by exact name, and by version
pub exact_state : (E : Environment) (s : Placed) (i : Import) → is_exact i.constraint ≡ true → place sha256 E s (AnImport i) ≡ place_exact sha256 s (linked E i InPacket)
exact_state E s i x = ap (λ b. elim b as (λ z. Placed) [ true ↦ place_exact sha256 s (linked E i InPacket) | false ↦ place_ranges sha256 s i (linked E i InPacket) ]) x

pub ranges_state : (E : Environment) (s : Placed) (i : Import) → is_exact i.constraint ≡ false → place sha256 E s (AnImport i) ≡ place_ranges sha256 s i (linked E i InPacket)
ranges_state E s i x = ap (λ b. elim b as (λ z. Placed) [ true ↦ place_exact sha256 s (linked E i InPacket) | false ↦ place_ranges sha256 s i (linked E i InPacket) ]) x

-- a module that refers to an import without a link, and another
abbrev refers_open : Placed → Module → Bool
refers_open s m = list_any (is_unresolved s.1) (part_refs (def_parts (AModule m)))

module _ (E : Environment) (p : Placing) (m : Module) (r : Bool) (is : r ≡ not (list_any (is_unresolved (map place_of p.places)) (part_refs (def_parts (AModule m))))) where
  abbrev after : Bool → Placed
  after b = elim b as (λ z. Placed) [ true ↦ put sha256 (state_of E p) (AMark []) None false | false ↦ found_or_put sha256 (state_of E p) (def_renumbered (placed_number (state_of E p).1) (AModule m)) None ]

  pub open_state : r ≡ false → place sha256 E (state_of E p) (AModule m) ≡ put sha256 (state_of E p) (AMark []) None false
  open_state h = ap after (not_false (refers_open (state_of E p) m) (sym is ∙ h))

  pub module_state : r ≡ true → place sha256 E (state_of E p) (AModule m) ≡ found_or_put sha256 (state_of E p) (def_renumbered (placed_number (state_of E p).1) (AModule m)) None
  module_state h = ap after (not_true (refers_open (state_of E p) m) (sym is ∙ h))

-- the links of a coherent environment
pub coherent_short : (E : Environment) → IsCoherent E → list_all has_short_link E ≡ true
coherent_short E c = every E (λ i e g. one e.def e.link i (c.linked i e.def (ap (option_map (λ (x : Entry). x.def)) g)) (ap (option_and_then (λ (x : Entry). x.link)) g) (within E i e g))
  where
    every : (xs : List Entry) → ((i : ℕ) (e : Entry) → slice_get xs i ≡ Some e → is_short e.link ≡ true) → list_all has_short_link xs ≡ true
    every [] h = refl
    every (x ∷ xs) h = and_true {a = is_short x.link} {b = list_all has_short_link xs} (h 0 x refl) (every xs (λ i e g. h (suc i) e g))

    small : (l : ℕ) → l ≤ 65535 → is_four l ≡ true
    small l h = grind (arith, nat_tests)

    none_short : (o l : Option ℕ) → o ≡ None → o ≡ l → is_short l ≡ true
    none_short o None p q = refl
    none_short o (Some j) p q = absurd (none≢some (sym p ∙ q))

    some_short : (o l : Option ℕ) (j : ℕ) → o ≡ Some j → o ≡ l → j ≤ 65535 → is_short l ≡ true
    some_short o None j p q h = refl
    some_short o (Some k) j p q h = small k (subst (λ n. n ≤ 65535) (some_eq (sym p ∙ q)) h)

    one : (d : Def) (l : Option ℕ) (i : ℕ) → IsLinked E i d → link_at E i ≡ l → i < length E → is_short l ≡ true
    one (AModule m) l i p q h = none_short (link_at E i) l p q
    one (AnImport m) l i p q h = some_short (link_at E i) l p.0 p.1 q (omega (arith, p.2, h, c.few))
    one (AMark t) l i p q h = none_short (link_at E i) l p q

-- nothing is placed yet
pub sound_first : (E : Environment) (p : Placing) → IsCoherent E → p.numbers ≡ [] → p.places ≡ [] → p.more ≡ [] → ((k : Key) → key_found p.keys k ≡ keyed E k.items) → IsSound E p
sound_first E p c numbers places more keys =
    let all : E ++ map entry_of p.more ≡ E = ap (λ es. E ++ map entry_of es) more ∙ append-nil E in
    record {
      numbers = numbers ∙ sym (ap (λ ps. map place_number (map place_of ps)) places);
      keys = λ k. keys k ∙ ap (λ X. keyed X k.items) (sym all);
      short = ap (list_all has_short_link) all ∙ coherent_short E c;
      few = let a = ap length more in let b = ap length places in omega (arith, a, b);
    }

pub state_first : (E : Environment) (p : Placing) → p.places ≡ [] → p.more ≡ [] → state_of E p ≡ (E, [])
state_first E p places more = ap₂ (λ es (ps : List Place). (es, ps)) (ap (λ es. E ++ map entry_of es) more ∙ append-nil E) (ap (map place_of) places)

-- the numbers of a state
pub numbers_of : (E : Environment) (p : Placing) (s : Placed) → IsSound E p → state_of E p ≡ s → p.numbers ≡ map place_number s.1
numbers_of E p s sound e = sound.numbers ∙ ap (λ (z : Placed). map place_number z.1) e
