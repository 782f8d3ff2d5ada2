-- The first with the same name and another text, where each name that is known has one text.
use Rattle.std.proofs.Common.{append_assoc, append-nil, length-append, ◌≡◌, refl, sym, ap, ap₂, ◌∙◌, subst, ℕ, zero, suc, ◌+◌, ◌-◌, ◌<◌, ◌≤◌, Bool, true, false, ◌&&◌, not, List, [], ◌∷◌, ◌++◌, length, take, drop, Option, Some, None}
use Rattle.std.specs.Prelude.{position, option_map, option_and_then, slice_get, nat_lt}
use Rattle.std.specs.Option.{option_or}
use mathlib.Core.Bool.{true≢false}
use native.Mathlib.Omega.{arith}
use Rattle.std.proofs.lemmas.Bool.{ltb-true, ltb-false}
use Rattle.std.proofs.lemmas.Bool.Decides.{nat_tests}
use Rattle.sha2.specs.Sha256.{sha256}
use Rattle.ac_types.proofs.FirstLaws.{none≢some, some_eq}
use Rattle.ac_types.proofs.Same.{bytes_eq, bytes_refl}
use Rattle.ac_types.specs.Types.{Bytes, same_bytes}
use Rattle.ac_types.specs.Partial.{alike, differ, given}
use Rattle.ac_terms.specs.Defs.{Environment, Entry, names}
use Rattle.ac_terms.specs.Names.{text_of_entry}
use Rattle.ac_rules.specs.Coherent.{IsCoherent}
use Rattle.ac_rules.specs.Packets.{named_from, clashes, first_clash, PacketCause, Clash}
use Rattle.ac_terms.proofs.TestLaws.{not_false, lt_is}
use Rattle.ac_rules.proofs.ViewLaws.{within}
use Rattle.ac_index.proofs.PositionLaws.{position-first, position-later, position_more}
use Rattle.ac_rules.proofs.EarlierLaws.{no_first}
use Rattle.ac_rules.proofs.ListLaws.{Of_more, old, last, of_more, get_old, found_passes}
use Rattle.ac_admit_clashes.specs.inner.Known.{Known, texted, known_at, known_before, known_of, all_known, text_under, HasOneText}

-- the first of those that pass one test, where another stands in front of both
given_some : (c : Bool) (o : Option ℕ) → option_map suc (given c o) ≡ given c (option_map suc o)
given_some true o = refl
given_some false o = refl

position_given : {A : Type 0} (c : Bool) (p q : A → Bool) (xs : List A) → ((j : ℕ) (x : A) → slice_get xs j ≡ Some x → q x ≡ (c && p x)) → position q xs ≡ given c (position p xs)
position_given true p q [] h = refl
position_given false p q [] h = refl
position_given c p q (x ∷ xs) h = by (position_given c p q xs (λ j y g. h (suc j) y g)) c (p x) (h 0 x refl) refl refl
  where
    by : position q xs ≡ given c (position p xs) → (d b : Bool) → q x ≡ (c && p x) → c ≡ d → p x ≡ b → position q (x ∷ xs) ≡ given c (position p (x ∷ xs))
    by ih d true k u e =
        let same : q x ≡ c = k ∙ ap (λ z. c && z) e ∙ and_one c in
        here c same
      where
        and_one : (a : Bool) → (a && true) ≡ a
        and_one true = refl
        and_one false = refl

        here : (a : Bool) → q x ≡ a → position q (x ∷ xs) ≡ given c (position p (x ∷ xs))
        here true s = let t : c ≡ true = sym (k ∙ ap (λ z. c && z) e ∙ and_one c) ∙ s in position-first q x xs s ∙ sym (ap (λ o. given c o) (position-first p x xs e) ∙ ap (λ a. given a (Some 0)) t)
        here false s =
            let t : c ≡ false = sym (k ∙ ap (λ z. c && z) e ∙ and_one c) ∙ s in
            position-later q x xs s ∙ ap (option_map suc) (ih ∙ ap (λ a. given a (position p xs)) t) ∙ sym (ap (λ a. given a (position p (x ∷ xs))) t)
    by ih d false k u e =
        position-later q x xs (k ∙ ap (λ z. c && z) e ∙ and_none c) ∙ ap (option_map suc) ih ∙ given_some c (position p xs) ∙ ap (given c) (sym (position-later p x xs e))
      where
        and_none : (a : Bool) → (a && false) ≡ false
        and_none true = refl
        and_none false = refl

-- byte strings are the same both ways
swapped : (a b : Bytes) → same_bytes a b ≡ same_bytes b a
swapped a b = by (same_bytes a b) (same_bytes b a) refl refl
  where
    by : (x y : Bool) → same_bytes a b ≡ x → same_bytes b a ≡ y → x ≡ y
    by true true p q = refl
    by false false p q = refl
    by true false p q = absurd (true≢false (sym (ap (λ c. same_bytes c a) (sym (bytes_eq a b p)) ∙ bytes_refl a) ∙ q))
    by false true p q = absurd (true≢false (sym (ap (λ c. same_bytes c b) (sym (bytes_eq b a q)) ∙ bytes_refl b) ∙ p))

module _ (known : List Known) (a : Known) (n s : Bytes) (named : a.0 ≡ Some n) (text : a.1 ≡ Some s) where
  -- a name with the text t, where each of the name has it
  module _ (t : Bytes) (one : (j : ℕ) (b : Known) → slice_get known j ≡ Some b → names (texted b) n ≡ true → b.1 ≡ Some t) where
    pointwise : (j : ℕ) (b : Known) → slice_get known j ≡ Some b → clashes sha256 a b ≡ (not (same_bytes s t) && names (texted b) n)
    pointwise j b g = ap₂ (λ x y. alike x b.0 && differ y b.1) named text ∙ by b.0 b.1 refl refl
      where
        and_none : (x : Bool) → (x && false) ≡ false
        and_none true = refl
        and_none false = refl

        both : (x y z : Bool) → x ≡ y → (x && z) ≡ (z && y)
        both true y z e = sym (ap (λ w. z && w) (sym e) ∙ one_right z)
          where
            one_right : (w : Bool) → (w && true) ≡ w
            one_right true = refl
            one_right false = refl
        both false y z e = sym (ap (λ w. z && w) (sym e) ∙ and_none z)

        by : (x y : Option Bytes) → b.0 ≡ x → b.1 ≡ y → (alike (Some n) x && differ (Some s) y) ≡ (not (same_bytes s t) && names (texted (x, y)) n)
        by None None p q = sym (and_none (not (same_bytes s t)))
        by (Some m) None p q = and_none (same_bytes n m) ∙ sym (and_none (not (same_bytes s t)))
        by None (Some u) p q = sym (and_none (not (same_bytes s t)))
        by (Some m) (Some u) p q = of (same_bytes m n) refl
          where
            of : (c : Bool) → same_bytes m n ≡ c → (same_bytes n m && not (same_bytes s u)) ≡ (not (same_bytes s t) && same_bytes m n)
            of true e =
                let has : names (texted b) n ≡ true = ap₂ (λ x y. names (texted (x, y)) n) p q ∙ e in
                let same : u ≡ t = some_eq (sym q ∙ one j b g has) in
                both (same_bytes n m) (same_bytes m n) (not (same_bytes s u)) (swapped n m) ∙ ap (λ w. not (same_bytes s w) && same_bytes m n) same
            of false e = ap (λ c. c && not (same_bytes s u)) (swapped n m ∙ e) ∙ sym (ap (λ c. not (same_bytes s t) && c) e ∙ and_none (not (same_bytes s t)))

    pub clash_given : position (clashes sha256 a) known ≡ given (not (same_bytes s t)) (known_at known n)
    clash_given = position_given (not (same_bytes s t)) (λ (b : Known). names (texted b) n) (clashes sha256 a) known pointwise

-- what has no name or no text clashes with nothing
pub no_clash : (known : List Known) (a : Known) → texted a ≡ None → position (clashes sha256 a) known ≡ None
no_clash known a h = none_of known
  where
    never : (b : Known) → clashes sha256 a b ≡ false
    never b = by a.0 a.1 h
      where
        and_none : (x : Bool) → (x && false) ≡ false
        and_none true = refl
        and_none false = refl

        by : (x y : Option Bytes) → texted (x, y) ≡ None → (alike x b.0 && differ y b.1) ≡ false
        by None y e = refl
        by (Some m) None e = and_none (alike (Some m) b.0)
        by (Some m) (Some u) e = absurd (none≢some (sym e))

    none_of : (xs : List Known) → position (clashes sha256 a) xs ≡ None
    none_of [] = refl
    none_of (x ∷ xs) = position-later (clashes sha256 a) x xs (never x) ∙ ap (option_map suc) (none_of xs)

-- what is known of an entry
module _ (E : Environment) where
  known_get : (i : ℕ) (es : List Entry) (k j : ℕ) → j ≡ i + k → ((m : ℕ) → slice_get es m ≡ slice_get E (i + m)) → k < length es → slice_get (named_from sha256 i E es) k ≡ Some (known_of E j)
  known_get i [] k j q h l = absurd (omega (arith, l))
  known_get i (e ∷ es) zero j q h l =
      let at : slice_get E j ≡ Some e = ap (slice_get E) (q ∙ ap (λ n. i + n) refl) ∙ sym (h 0) in
      ap (λ (n : ℕ). Some (e.name, text_of_entry E n)) (omega (arith, q)) ∙ ap (λ (o : Option Bytes). Some (o, text_of_entry E j)) (sym (ap (option_and_then (λ (x : Entry). x.name)) at))
  known_get i (e ∷ es) (suc k) j q h l = known_get (suc i) es k j (omega (arith, q)) (λ m. h (suc m) ∙ ap (slice_get E) (omega arith)) (omega (arith, l))

  pub all_known_at : (j : ℕ) → j < length E → slice_get (all_known E) j ≡ Some (known_of E j)
  all_known_at j l = known_get 0 E j j (omega arith) (λ m. ap (slice_get E) (omega arith)) l

  many_known : (i : ℕ) (es : List Entry) → length (named_from sha256 i E es) ≡ length es
  many_known i [] = refl
  many_known i (e ∷ es) = ap suc (many_known (suc i) es)

  pub as_many_known : length (all_known E) ≡ length E
  as_many_known = many_known 0 E

-- the entries of a coherent environment have one text for a name
pub coherent_known : (E : Environment) → IsCoherent E → HasOneText (all_known E)
coherent_known E c j k a b n s t p q u v x y =
    let one : (i : ℕ) (d : Known) → slice_get (all_known E) i ≡ Some d → known_of E i ≡ d =
    λ i d g. some_eq (sym (all_known_at E i (subst (λ m. i < m) (as_many_known E) (within (all_known E) i d g))) ∙ g) in
    let e = one j a p in
    let f = one k b q in
    c.one_text j k n s t (ap (λ (z : Known). z.0) e ∙ u) (ap (λ (z : Known). z.0) f ∙ v) (ap (λ (z : Known). z.1) e ∙ x) (ap (λ (z : Known). z.1) f ∙ y)

none_at : {A : Type 0} (p : A → Bool) (xs : List A) → position p xs ≡ None → (k : ℕ) (x : A) → slice_get xs k ≡ Some x → p x ≡ false
none_at p [] h k x g = absurd (none≢some g)
none_at p (y ∷ xs) h zero x g = let q = no_first p y xs h in ap p (sym (some_eq g)) ∙ q.0
none_at p (y ∷ xs) h (suc k) x g = let q = no_first p y xs h in none_at p xs q.1 k x g

-- what doesn't clash has one text
one_of : (n s t : Bytes) (a b : Known) → clashes sha256 a b ≡ false → a.0 ≡ Some n → b.0 ≡ Some n → a.1 ≡ Some s → b.1 ≡ Some t → s ≡ t
one_of n s t a b h p q u v =
    let e : (same_bytes n n && not (same_bytes s t)) ≡ false = sym (ap₂ (λ x y. x && y) (ap₂ alike p q) (ap₂ differ u v)) ∙ h in
    bytes_eq s t (not_false (same_bytes s t) (ap (λ x. x && not (same_bytes s t)) (sym (bytes_refl n)) ∙ e))

pub one_more_text : (known : List Known) (x : Known) → HasOneText known → position (clashes sha256 x) known ≡ None → HasOneText (known ++ x ∷ [])
one_more_text known x one h j k a b n s t p q u v y z = by (of_more known x j a p) (of_more known x k b q)
  where
    by : Of_more known x j a → Of_more known x k b → s ≡ t
    by (old l g) (old m f) = one j k a b n s t g f u v y z
    by (old l g) (last m f) = sym (one_of n t s x a (none_at (clashes sha256 x) known h j a g) (ap (λ (w : Known). w.0) f ∙ v) u (ap (λ (w : Known). w.1) f ∙ z) y)
    by (last l g) (old m f) = one_of n s t x b (none_at (clashes sha256 x) known h k b f) (ap (λ (w : Known). w.0) g ∙ u) v (ap (λ (w : Known). w.1) g ∙ y) z
    by (last l g) (last m f) = some_eq (sym y ∙ ap (λ (w : Known). w.1) (sym g ∙ f) ∙ z)

-- the next definition of a packet: what is known before it, and behind it
take_one : {A : Type 0} (xs : List A) (i : ℕ) (x : A) → slice_get xs i ≡ Some x → take (suc i) xs ≡ take i xs ++ x ∷ []
take_one [] i x h = absurd (none≢some h)
take_one (y ∷ xs) zero x h = ap (λ z. z ∷ []) (some_eq h)
take_one (y ∷ xs) (suc i) x h = ap (λ zs. y ∷ zs) (take_one xs i x h)

drop_one : {A : Type 0} (xs : List A) (i : ℕ) (x : A) → slice_get xs i ≡ Some x → drop i xs ≡ x ∷ drop (suc i) xs
drop_one [] i x h = absurd (none≢some h)
drop_one (y ∷ xs) zero x h = ap (λ z. z ∷ xs) (some_eq h)
drop_one (y ∷ xs) (suc i) x h = drop_one xs i x h

taken : {A : Type 0} (xs : List A) (i : ℕ) → i ≤ length xs → length (take i xs) ≡ i
taken xs zero h = refl
taken [] (suc i) h = absurd (omega (arith, h))
taken (x ∷ xs) (suc i) h = ap suc (taken xs i (omega (arith, h)))

module _ (E A : Environment) (i : ℕ) (l : i < length A) where
  pub before_next : known_before E A (suc i) ≡ known_before E A i ++ known_of A i ∷ []
  before_next = ap (λ ks. all_known E ++ ks) (take_one (all_known A) i (known_of A i) (all_known_at A i l)) ∙ sym (append_assoc (all_known E) (take i (all_known A)) (known_of A i ∷ []))

  pub many_before : length (known_before E A i) ≡ length E + i
  many_before = length-append (all_known E) (take i (all_known A)) ∙ ap₂ (λ a b. a + b) (as_many_known E) (taken (all_known A) i (let s : length (all_known A) ≡ length A = as_many_known A in omega (arith, l, s)))

  -- one step of the search
  abbrev after : Option ℕ → Option PacketCause
  after o = elim o [ Some j ↦ Some (Clash i j) | None ↦ first_clash sha256 (known_before E A i ++ known_of A i ∷ []) (suc i) (drop (suc i) (all_known A)) ]

  pub clash_step : first_clash sha256 (known_before E A i) i (drop i (all_known A)) ≡ after (position (clashes sha256 (known_of A i)) (known_before E A i))
  clash_step = ap (first_clash sha256 (known_before E A i) i) (drop_one (all_known A) i (known_of A i) (all_known_at A i l))

  pub step_on : position (clashes sha256 (known_of A i)) (known_before E A i) ≡ None → first_clash sha256 (known_before E A i) i (drop i (all_known A)) ≡ first_clash sha256 (known_before E A (suc i)) (suc i) (drop (suc i) (all_known A))
  step_on h = clash_step ∙ ap after h ∙ ap (λ ks. first_clash sha256 ks (suc i) (drop (suc i) (all_known A))) (sym before_next)

  pub step_found : (j : ℕ) → position (clashes sha256 (known_of A i)) (known_before E A i) ≡ Some j → first_clash sha256 (known_before E A i) i (drop i (all_known A)) ≡ Some (Clash i j)
  step_found j h = clash_step ∙ ap after h

  pub step_text : HasOneText (known_before E A i) → position (clashes sha256 (known_of A i)) (known_before E A i) ≡ None → HasOneText (known_before E A (suc i))
  step_text one h = subst HasOneText (sym before_next) (one_more_text (known_before E A i) (known_of A i) one h)

pub before_first : (E A : Environment) → known_before E A 0 ≡ all_known E
before_first E A = append-nil (all_known E)

pub nothing_left : (K : List Known) (A : Environment) (i : ℕ) → i ≡ length A → first_clash sha256 K i (drop i (all_known A)) ≡ None
nothing_left K A i e = ap (first_clash sha256 K i) (ap (λ n. drop n (all_known A)) (e ∙ sym (as_many_known A)) ∙ all_dropped (all_known A))
  where
    all_dropped : {B : Type 0} (xs : List B) → drop (length xs) xs ≡ []
    all_dropped [] = refl
    all_dropped (x ∷ xs) = all_dropped xs

-- what the map has, with one more name
pub found_next : (ks : List Known) (x : Known) (k : ℕ) → length ks ≡ k → (had has : Bytes → Option ℕ) → ((n : Bytes) → had n ≡ known_at ks n) → (o : Option Bytes) → o ≡ texted x →
    ((n : Bytes) → has n ≡ option_or (had n) (given (names o n) (Some k))) → (n : Bytes) → has n ≡ known_at (ks ++ x ∷ []) n
found_next ks x k many had has h o same u n =
    u n ∙ ap₂ (λ a b. option_or a b) (h n) (ap₂ (λ (p : Option Bytes) m. given (names p n) (Some m)) same (sym many)) ∙ sym (position_more (λ (p : Known). names (texted p) n) ks x)

-- the entries, one by one
pub entries_next : (E : Environment) (i : ℕ) → i < length E → take (suc i) (all_known E) ≡ take i (all_known E) ++ known_of E i ∷ []
entries_next E i l = take_one (all_known E) i (known_of E i) (all_known_at E i l)

pub entries_taken : (E : Environment) (i : ℕ) → i < length E → length (take i (all_known E)) ≡ i
entries_taken E i l = taken (all_known E) i (let s : length (all_known E) ≡ length E = as_many_known E in omega (arith, l, s))

pub entries_all : (E : Environment) (i : ℕ) → i ≡ length E → take i (all_known E) ≡ all_known E
entries_all E i e = ap (λ n. take n (all_known E)) (e ∙ sym (as_many_known E)) ∙ all_taken (all_known E)
  where
    all_taken : {B : Type 0} (xs : List B) → take (length xs) xs ≡ xs
    all_taken [] = refl
    all_taken (x ∷ xs) = ap (λ ys. x ∷ ys) (all_taken xs)

-- the answer for definition i, from what the map has for its name
module _ (E A : Environment) (i : ℕ) (one : HasOneText (known_before E A i)) (n s : Bytes) (is : texted (known_of A i) ≡ Some n) (text : (known_of A i).1 ≡ Some s) where
  abbrev K : List Known
  K = known_before E A i

  name_is : (known_of A i).0 ≡ Some n
  name_is = ap (λ (y : Option Bytes). elim y as (λ z. Option Bytes) [ Some u ↦ (known_of A i).0 | None ↦ None ]) (sym text) ∙ is

  pub clash_unknown : known_at K n ≡ None → position (clashes sha256 (known_of A i)) K ≡ None
  clash_unknown h =
      clash_given K (known_of A i) n s name_is text s (λ j b g e. absurd (true≢false (sym e ∙ none_at (λ (p : Known). names (texted p) n) K h j b g)))
      ∙ ap (λ c. given (not c) (known_at K n)) (bytes_refl s)

  pub clash_known : (k : ℕ) (b : Known) (t : Bytes) → known_at K n ≡ Some k → slice_get K k ≡ Some b → b.0 ≡ Some n → b.1 ≡ Some t → position (clashes sha256 (known_of A i)) K ≡ given (not (same_bytes s t)) (Some k)
  clash_known k b t h g u v =
      clash_given K (known_of A i) n s name_is text t (λ j d f e. all_of j d f e d.0 d.1 refl refl) ∙ ap (given (not (same_bytes s t))) h
    where
      all_of : (j : ℕ) (d : Known) → slice_get K j ≡ Some d → names (texted d) n ≡ true → (x y : Option Bytes) → d.0 ≡ x → d.1 ≡ y → d.1 ≡ Some t
      all_of j d f e x None p q = absurd (true≢false (sym e ∙ ap₂ (λ (a b : Option Bytes). names (texted (a, b)) n) p q ∙ refl))
      all_of j d f e None (Some w) p q = absurd (true≢false (sym e ∙ ap₂ (λ (a b : Option Bytes). names (texted (a, b)) n) p q))
      all_of j d f e (Some m) (Some w) p q =
          let same : m ≡ n = bytes_eq m n (sym (ap₂ (λ (a b : Option Bytes). names (texted (a, b)) n) p q) ∙ e) in
          q ∙ ap Some (one j k d b n w t f g (p ∙ ap Some same) u q v)

-- the text under a number
under_old : (E A : Environment) (k : ℕ) → k < length E → text_under E A k ≡ text_of_entry E k
unfolding text_under
under_old E A k l = ap (λ b. elim b as (λ z. Option Bytes) [ true ↦ text_of_entry E k | false ↦ text_of_entry A (k - length E) ]) (lt_is k (length E) l)

under_new : (E A : Environment) (k : ℕ) → length E ≤ k → text_under E A k ≡ text_of_entry A (k - length E)
unfolding text_under
under_new E A k l = ap (λ b. elim b as (λ z. Option Bytes) [ true ↦ text_of_entry E k | false ↦ text_of_entry A (k - length E) ]) (not_below k (length E) l)
  where
    not_below : (a b : ℕ) → b ≤ a → nat_lt a b ≡ false
    not_below a b h = grind (arith, nat_tests)

get_behind : {B : Type 0} (xs ys : List B) (k : ℕ) → slice_get (xs ++ ys) (length xs + k) ≡ slice_get ys k
get_behind [] ys k = let none : 0 + k ≡ k = omega arith in ap (slice_get ys) none
get_behind (x ∷ xs) ys k = let next : length (x ∷ xs) + k ≡ suc (length xs + k) = omega arith in ap (slice_get (x ∷ (xs ++ ys))) next ∙ get_behind xs ys k

get_taken : {B : Type 0} (xs : List B) (i k : ℕ) (x : B) → slice_get (take i xs) k ≡ Some x → slice_get xs k ≡ Some x
get_taken xs zero k x h = absurd (none≢some h)
get_taken [] (suc i) k x h = absurd (none≢some h)
get_taken (y ∷ xs) (suc i) zero x h = h
get_taken (y ∷ xs) (suc i) (suc k) x h = get_taken xs i k x h

known_text : (E : Environment) (k : ℕ) (b : Known) → slice_get (all_known E) k ≡ Some b → text_of_entry E k ≡ b.1
known_text E k b g =
    let l : k < length E = subst (λ m. k < m) (as_many_known E) (within (all_known E) k b g) in
    ap (λ (z : Known). z.1) (some_eq (sym (all_known_at E k l) ∙ g))

pub text_is : (E A : Environment) (i k : ℕ) (b : Known) → slice_get (known_before E A i) k ≡ Some b → text_under E A k ≡ b.1
text_is E A i k b g = by (nat_lt k (length E)) refl
  where
    by : (c : Bool) → nat_lt k (length E) ≡ c → text_under E A k ≡ b.1
    by true e =
        let l : k < length E = ltb-true k (length E) e in
        let m : k < length (all_known E) = subst (λ n. k < n) (sym (as_many_known E)) l in
        under_old E A k l ∙ known_text E k b (sym (get_old (all_known E) (take i (all_known A)) k m) ∙ g)
    by false e =
        let l : length E ≤ k = ltb-false k (length E) e in
        let n : ℕ = k - length E in
        let at : k ≡ length (all_known E) + n = (let s : length (all_known E) ≡ length E = as_many_known E in omega (arith, l, s)) in
        under_new E A k l ∙ known_text A n b (get_taken (all_known A) i n b (sym (get_behind (all_known E) (take i (all_known A)) n) ∙ ap (slice_get (known_before E A i)) (sym at) ∙ g))

-- what stands under the number that was found
pub record Found (K : List Known) (n : Bytes) (k : ℕ) : Type 0 where
  pub what : Known
  pub text : Bytes
  pub there : slice_get K k ≡ Some what
  pub named : what.0 ≡ Some n
  pub texts : what.1 ≡ Some text

pub found_there : (K : List Known) (n : Bytes) (k : ℕ) → known_at K n ≡ Some k → Found K n k
found_there K n k h =
    let f = found_passes (λ (p : Known). names (texted p) n) K k h in
    by f.0 f.0.0 f.0.1 refl refl f.1 f.2
  where
    by : (b : Known) (x y : Option Bytes) → b.0 ≡ x → b.1 ≡ y → slice_get K k ≡ Some b → names (texted b) n ≡ true → Found K n k
    by b x None p q g e = absurd (true≢false (sym e ∙ ap₂ (λ (a c : Option Bytes). names (texted (a, c)) n) p q))
    by b None (Some u) p q g e = absurd (true≢false (sym e ∙ ap₂ (λ (a c : Option Bytes). names (texted (a, c)) n) p q))
    by b (Some m) (Some u) p q g e = record {
      what = b;
      text = u;
      there = g;
      named = p ∙ ap Some (bytes_eq m n (sym (ap₂ (λ (a c : Option Bytes). names (texted (a, c)) n) p q) ∙ e));
      texts = q;
    }

-- a name stands beside a text
pub text_beside : (a : Known) (n : Bytes) → texted a ≡ Some n → (s : Bytes) × (a.1 ≡ Some s)
text_beside a n h = by a.1 refl h
  where
    by : (y : Option Bytes) → a.1 ≡ y → texted (a.0, y) ≡ Some n → (s : Bytes) × (a.1 ≡ Some s)
    by None q e = absurd (none≢some e)
    by (Some s) q e = (s, q)

-- the answer where the map has a number for the name
pub answered : (E A : Environment) (i : ℕ) → HasOneText (known_before E A i) → (n : Bytes) → texted (known_of A i) ≡ Some n → (k : ℕ) → known_at (known_before E A i) n ≡ Some k →
    position (clashes sha256 (known_of A i)) (known_before E A i) ≡ given (differ (text_of_entry A i) (text_under E A k)) (Some k)
answered E A i one n is k h =
    let s = text_beside (known_of A i) n is in
    let f = found_there (known_before E A i) n k h in
    clash_known E A i one n s.0 is s.1 k f.what f.text h f.there f.named f.texts
    ∙ sym (ap (λ d. given d (Some k)) (ap₂ differ s.1 (text_is E A i k f.what f.there ∙ f.texts)))

pub unknown : (E A : Environment) (i : ℕ) → HasOneText (known_before E A i) → (n : Bytes) → texted (known_of A i) ≡ Some n → known_at (known_before E A i) n ≡ None → position (clashes sha256 (known_of A i)) (known_before E A i) ≡ None
unknown E A i one n is h = let s = text_beside (known_of A i) n is in clash_unknown E A i one n s.0 is s.1 h
