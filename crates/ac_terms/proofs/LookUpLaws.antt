-- The look-ups of an environment, type by type of a signature, and entry by entry.
use Rattle.std.proofs.Common.{zero, suc, ◌≡◌, refl, sym, ap, ap₂, ◌∙◌, ℕ, ◌+◌, ◌<◌, ◌≤◌, Bool, true, false, ◌&&◌, ◌||◌, List, [], ◌∷◌, ◌++◌, map, length, drop, get_or, Option, Some, None}
use Rattle.std.specs.Prelude.{◌≢◌, position, option_map, is_none}
use Rattle.std.specs.List.{list_any}
use Rattle.std.specs.Option.{option_map_or, option_or}
use Rattle.std.proofs.lemmas.List.{map-append, length-map, drop_more, drop_all}
use mathlib.Core.Bool.{true≢false}
use native.Mathlib.Omega.{arith}
use Rattle.ac_types.specs.declared.ty.Ty.{Ty}
use Rattle.ac_types.specs.declared.sig.SigType.{SigType}
use Rattle.ac_types.specs.Types.{Bytes, Typ, same_bytes}
use Rattle.ac_types.specs.Sigs.{Sig_type, Signature, type_under, is_abstract}
use Rattle.ac_types.specs.Partial.{given}
use Rattle.ac_types.specs.ReadTypes.{typ_of, sig_type_of}
use Rattle.ac_types.proofs.Same.{both_true, and_true}
use Rattle.ac_index.specs.Noted.{Noted, first_under, but, forgetting}
use Rattle.ac_index.proofs.NotedLaws.{or_none, but_it, but_other, but_gone}
use Rattle.ac_index.proofs.PositionLaws.{position_more, position_less, position_within}
use Rattle.ac_index.proofs.KeyLaws.{same_parts}
use Rattle.ac_terms.specs.declared.def.Entry as code
use Rattle.ac_terms.specs.Defs.{Entry, names, signature, declares}
use Rattle.ac_terms.specs.Read.{entry_of}
use Rattle.ac_terms.specs.inner.LookUps.{AreInStep, AreBefore, AreNoted, AreForgotten, AreKept, has_type, has_abstract, lists, spec_noted}

-- whether the name m is n, and has the type t among these
abbrev pub abstract_at : Bytes → List Sig_type → Bytes → Bytes → Bool
abstract_at m xs n t = same_bytes m n && is_abstract (type_under t xs)

abbrev pub type_at : Bytes → List Sig_type → Bytes → Bytes → Bool
type_at m xs n t = same_bytes m n && list_any (λ (x : Sig_type). same_bytes x.name t) xs

and_false : (a : Bool) → (a && false) ≡ false
and_false true = refl
and_false false = refl

but_none : (i : ℕ) (o : Option ℕ) (b : Bool) → o ≢ Some i → but i (option_or o (given b (Some i))) ≡ o
but_none i None true h = sym (but_it i (Some i) refl)
but_none i None false h = refl
but_none i (Some j) b h = but_other i (Some j) h

-- what isn't there goes again
pub undone : (i : ℕ) (o : Option ℕ) (b s : Bool) → o ≢ Some i → (b ≡ true → s ≡ true) → forgetting s i (option_or o (given b (Some i))) ≡ o
undone i o b true h all = but_none i o b h
undone i o true false h all = absurd (true≢false (sym (all refl)))
undone i o false false h all = or_none o

-- one more type, in front of those that are noted
pub spec_more : (m : Bytes) (x : Sig_type) (xs : List Sig_type) (i : ℕ) (n t : Bytes) (o : Option ℕ) → o ≢ Some i → length m ≡ length n →
    spec_noted (is_none x.manifest) (same_bytes (m ++ x.name) (n ++ t)) i (option_or o (given (abstract_at m xs n t) (Some i))) ≡ option_or o (given (abstract_at m (x ∷ xs) n t) (Some i))
spec_more m x xs i n t o h l =
    ap (λ b. spec_noted (is_none x.manifest) b i (option_or o (given (abstract_at m xs n t) (Some i)))) (same_parts m n x.name t l)
    ∙ on (same_bytes m n) (same_bytes x.name t) x.manifest (type_under t xs)
  where
    one : (p : Option ℕ) (b : Bool) → option_or (option_or p (given b (Some i))) (Some i) ≡ option_or p (Some i)
    one None true = refl
    one None false = refl
    one (Some j) b = refl

    on : (s w : Bool) (f : Option Typ) (r : Option (Option Typ)) →
        spec_noted (is_none f) (s && w) i (option_or o (given (s && is_abstract r) (Some i))) ≡ option_or o (given (s && is_abstract (elim w as (λ z. Option (Option Typ)) [ true ↦ Some f | false ↦ r ])) (Some i))
    on true true None r = one o (is_abstract r)
    on true true (Some T) r = but_none i o (is_abstract r) h ∙ sym (or_none o)
    on true false None r = or_none (option_or o (given (is_abstract r) (Some i)))
    on true false (Some T) r = refl
    on false w None r = or_none (option_or o None)
    on false w (Some T) r = refl

-- one type less, the one in front
pub spec_less : (m : Bytes) (x : Sig_type) (xs : List Sig_type) (i : ℕ) (n t : Bytes) (o : Option ℕ) → length m ≡ length n →
    forgetting (type_at m xs n t) i (forgetting (same_bytes (m ++ x.name) (n ++ t)) i o) ≡ forgetting (type_at m (x ∷ xs) n t) i o
spec_less m x xs i n t o l =
    ap (λ b. forgetting (type_at m xs n t) i (forgetting b i o)) (same_parts m n x.name t l)
    ∙ on (same_bytes m n) (same_bytes x.name t) (list_any (λ (y : Sig_type). same_bytes y.name t) xs)
  where
    on : (s w r : Bool) → forgetting (s && r) i (forgetting (s && w) i o) ≡ forgetting (s && (w || r)) i o
    on true true true = but_other i (but i o) (but_gone i o)
    on true true false = refl
    on true false r = refl
    on false w r = refl

-- a type that is abstract is there
is_among : (xs : List Sig_type) (t : Bytes) → is_abstract (type_under t xs) ≡ true → list_any (λ (x : Sig_type). same_bytes x.name t) xs ≡ true
is_among [] t h = absurd (true≢false (sym h))
is_among (x ∷ xs) t h = by (same_bytes x.name t) (is_among xs t) h
  where
    by : (b : Bool) → (is_abstract (type_under t xs) ≡ true → list_any (λ (y : Sig_type). same_bytes y.name t) xs ≡ true) →
        is_abstract (elim b as (λ z. Option (Option Typ)) [ true ↦ Some x.manifest | false ↦ type_under t xs ]) ≡ true → (b || list_any (λ (y : Sig_type). same_bytes y.name t) xs) ≡ true
    by true more g = refl
    by false more g = more g

or_true : (a b : Bool) → b ≡ true → (a || b) ≡ true
or_true true b h = refl
or_true false b h = h

-- the same of the types of the code, from the number j on
module _ (m : Bytes) (specs : List SigType) (i : ℕ) where
  abbrev left : ℕ → List Sig_type
  left j = map sig_type_of (drop j specs)

  -- no type is noted yet
  pub none_noted : (n t : Bytes) (o : Option ℕ) → o ≡ option_or o (given (abstract_at m (left (length specs)) n t) (Some i))
  none_noted n t o =
      sym (
      ap (λ (xs : List SigType). option_or o (given (abstract_at m (map sig_type_of xs) n t) (Some i))) (drop_all (length specs) specs (omega arith))
      ∙ ap (λ b. option_or o (given b (Some i))) (and_false (same_bytes m n)) ∙ or_none o
      )

  -- all types are noted
  pub all_noted : (j : ℕ) → j ≤ 0 → (n t : Bytes) (o now : Option ℕ) → now ≡ option_or o (given (abstract_at m (left j) n t) (Some i)) → now ≡ option_or o (given (abstract_at m (map sig_type_of specs) n t) (Some i))
  all_noted zero h n t o now e = e
  all_noted (suc j) h n t o now e = absurd (omega (arith, h))

  -- all types are forgotten
  pub all_forgotten : (j : ℕ) → length specs ≤ j → (n t : Bytes) (o : Option ℕ) → forgetting (type_at m (left j) n t) i o ≡ o
  all_forgotten j h n t o =
      ap (λ (xs : List SigType). forgetting (type_at m (map sig_type_of xs) n t) i o) (drop_all j specs h)
      ∙ ap (λ b. forgetting b i o) (and_false (same_bytes m n))

  split : (j : ℕ) (x : SigType) → j < length specs → x ≡ get_or specs j x → left j ≡ sig_type_of x ∷ left (j + 1)
  split j x h e = ap (map sig_type_of) (drop_more specs j x h ∙ ap (λ y. y ∷ drop (j + 1) specs) (sym e))

  mapped_none : (o : Option Ty) → is_none (option_map typ_of o) ≡ is_none o
  mapped_none None = refl
  mapped_none (Some T) = refl

  pub next_noted : (k j : ℕ) (x : SigType) → k ≡ j + 1 → j < length specs → x ≡ get_or specs j x → (n t : Bytes) → length m ≡ length n →
      (o now new : Option ℕ) → o ≢ Some i → now ≡ option_or o (given (abstract_at m (left k) n t) (Some i)) →
      new ≡ spec_noted (is_none x.manifest) (same_bytes (m ++ x.name) (n ++ t)) i now → new ≡ option_or o (given (abstract_at m (left j) n t) (Some i))
  next_noted k j x more h e n t l o now new fresh was step =
      step
      ∙ ap₂ (λ b p. spec_noted b (same_bytes (m ++ x.name) (n ++ t)) i p) (sym (mapped_none x.manifest)) (was ∙ ap (λ p. option_or o (given (abstract_at m (left p) n t) (Some i))) more)
      ∙ spec_more m (sig_type_of x) (left (j + 1)) i n t o fresh l
      ∙ ap (λ (xs : List Sig_type). option_or o (given (abstract_at m xs n t) (Some i))) (sym (split j x h e))

  pub next_forgotten : (j : ℕ) (x : SigType) → j < length specs → x ≡ get_or specs j x → (n t : Bytes) → length m ≡ length n →
      (now new all : Option ℕ) → forgetting (type_at m (left j) n t) i now ≡ all → new ≡ forgetting (same_bytes (m ++ x.name) (n ++ t)) i now →
      forgetting (type_at m (left (j + 1)) n t) i new ≡ all
  next_forgotten j x h e n t l now new all was step =
      ap (forgetting (type_at m (left (j + 1)) n t) i) step
      ∙ spec_less m (sig_type_of x) (left (j + 1)) i n t now l
      ∙ ap (λ (xs : List Sig_type). forgetting (type_at m xs n t) i now) (sym (split j x h e)) ∙ was

  -- what is abstract behind some types is among all
  pub some_at : (j : ℕ) (n t : Bytes) → abstract_at m (left j) n t ≡ true → type_at m (map sig_type_of specs) n t ≡ true
  some_at j n t e =
      let parts = both_true (same_bytes m n) (is_abstract (type_under t (left j))) e in
      and_true {a = same_bytes m n} {b = list_any (λ (x : Sig_type). same_bytes x.name t) (map sig_type_of specs)} parts.0 (behind j specs (is_among (left j) t parts.1))
    where
      behind : (k : ℕ) (xs : List SigType) → list_any (λ (x : Sig_type). same_bytes x.name t) (map sig_type_of (drop k xs)) ≡ true → list_any (λ (x : Sig_type). same_bytes x.name t) (map sig_type_of xs) ≡ true
      behind zero xs h = h
      behind (suc k) [] h = h
      behind (suc k) (x ∷ xs) h = or_true (same_bytes x.name t) _ (behind k xs h)

-- an entry that is abstract has the type
pub declared_has : (n t : Bytes) (e : Entry) → declares n t e ≡ true → lists n t e ≡ true
declared_has n t e h =
    let parts = both_true (names e.name n) (has_abstract t e.def) h in
    and_true {a = names e.name n} {b = has_type t e.def} parts.0 (on (signature e.def) parts.1)
  where
    on : (o : Option Signature) → option_map_or (λ (s : Signature). is_abstract (type_under t s.types)) o false ≡ true → option_map_or (λ (s : Signature). list_any (λ (x : Sig_type). same_bytes x.name t) s.types) o false ≡ true
    on None g = g
    on (Some s) g = is_among s.types t g

-- an entry that was noted is forgotten again
pub entry_back : (i : ℕ) (e : Entry) (named declared named' declared' named'' declared'' : Noted) → AreBefore i named declared → AreNoted i e named declared named' declared' → AreForgotten i e named' declared' named'' declared'' → AreKept named declared named'' declared''
entry_back i e named declared named' declared' named'' declared'' before noted gone = record {
  names = λ n. gone.names n ∙ ap (forgetting (names e.name n) i) (noted.names n) ∙ undone i (first_under named n) (names e.name n) (names e.name n) (before.names n) (λ h. h);
  types = λ n t l. gone.types n t l ∙ ap (forgetting (lists n t e) i) (noted.types n t l) ∙ undone i (first_under declared (n ++ t)) (declares n t e) (lists n t e) (before.types n t l) (declared_has n t e);
}

-- nothing is noted, and there is no entry
pub in_step_none : (named declared : Noted) (es : List code.Entry) → named ≡ [] → declared ≡ [] → es ≡ [] → AreInStep named declared es
in_step_none named declared es a b e = rw (a, b, e) (record { names = λ n. refl; types = λ n t l. refl })

module _ (named declared : Noted) (es : List code.Entry) (i : ℕ) (number : i ≡ length es) (is : AreInStep named declared es) where
  count : i ≡ length (map entry_of es)
  count = number ∙ sym (length-map es entry_of)

  -- no entry has the next number
  pub in_step_before : AreBefore i named declared
  in_step_before = record {
    names = λ n e. position_within (λ (x : Entry). names x.name n) (map entry_of es) (sym (is.names n) ∙ e ∙ ap Some count);
    types = λ n t l e. position_within (declares n t) (map entry_of es) (sym (is.types n t l) ∙ e ∙ ap Some count);
  }

  -- one more entry
  pub in_step_more : (e : code.Entry) (named' declared' : Noted) → AreNoted i (entry_of e) named declared named' declared' → AreInStep named' declared' (es ++ e ∷ [])
  in_step_more e named' declared' noted = record {
    names = λ n. noted.names n ∙ more (λ (x : Entry). names x.name n) (first_under named n) (is.names n);
    types = λ n t l. noted.types n t l ∙ more (declares n t) (first_under declared (n ++ t)) (is.types n t l);
  }
    where
      more : (p : Entry → Bool) (o : Option ℕ) → o ≡ position p (map entry_of es) → option_or o (given (p (entry_of e)) (Some i)) ≡ position p (map entry_of (es ++ e ∷ []))
      more p o h =
          ap₂ (λ q k. option_or q (given (p (entry_of e)) (Some k))) h count ∙ sym (position_more p (map entry_of es) (entry_of e))
          ∙ ap (position p) (sym (map-append entry_of es (e ∷ [])))

-- the same entries
pub in_step_kept : (named declared named' declared' : Noted) (es : List code.Entry) → AreInStep named declared es → AreKept named declared named' declared' → AreInStep named' declared' es
in_step_kept named declared named' declared' es is kept = record {
  names = λ n. kept.names n ∙ is.names n;
  types = λ n t l. kept.types n t l ∙ is.types n t l;
}

-- one entry less
pub in_step_less : (named declared : Noted) (es : List code.Entry) (e : code.Entry) (i : ℕ) → i ≡ length es → AreInStep named declared (es ++ e ∷ []) → (named' declared' : Noted) → AreForgotten i (entry_of e) named declared named' declared' → AreInStep named' declared' es
in_step_less named declared es e i number is named' declared' gone = record {
  names = λ n. gone.names n ∙ less (λ (x : Entry). names x.name n) (names (entry_of e).name n) (first_under named n) (λ h. h) (is.names n);
  types = λ n t l. gone.types n t l ∙ less (declares n t) (lists n t (entry_of e)) (first_under declared (n ++ t)) (declared_has n t (entry_of e)) (is.types n t l);
}
  where
    count : i ≡ length (map entry_of es)
    count = number ∙ sym (length-map es entry_of)

    less : (p : Entry → Bool) (b : Bool) (o : Option ℕ) → (p (entry_of e) ≡ true → b ≡ true) → o ≡ position p (map entry_of (es ++ e ∷ [])) → forgetting b i o ≡ position p (map entry_of es)
    less p b o h was =
        ap₂ (λ k q. forgetting b k q) count (was ∙ ap (position p) (map-append entry_of es (e ∷ [])))
        ∙ position_less p b (map entry_of es) (entry_of e) h
