-- The first clash of entries: what the first entry of each name says of the next.
use Rattle.std.proofs.Common.{◌≡◌, ◌∙◌, ◌⊎◌, inl, inr, ◌<◌, ◌+◌, refl, sym, ap, ap₂, subst, ℕ, suc, Bool, true, false, length, Option, Some, None, arith}
use Rattle.std.specs.Prelude.{not, ◌&&◌, is_some, if◌then◌else◌}
use Rattle.std.specs.Option.{option_map_or, option_or}
use Rattle.std.proofs.lemmas.Bool.{cases_order}
use Rattle.ac_types.specs.Partial.{given, differ}
use Rattle.ac_types.specs.Types.{Bytes, same_bytes}
use Rattle.ac_types.proofs.FirstLaws.{none≢some, some_eq, given_some}
use Rattle.ac_types.proofs.Same.{both_true, bytes_eq, bytes_refl}
use Rattle.ac_terms.specs.Defs.{Environment, name_at, names}
use Rattle.ac_terms.specs.Names.{text_of_entry}
use Rattle.ac_load_rules.specs.Causes.{Clash, entries_clash, clash_of, first_entry_clash}
use Rattle.ac_load_causes.specs.inner.Named.{told_name, first_told, put_number}
use Rattle.ac_load_rules.proofs.Firsts.{below_all, below_none, below_some, below_is}

true_or_false : {A : Type 0} (b : Bool) → b ≡ true → b ≡ false → A
true_or_false b t f = absurd (none≢some {A = ℕ} (ap (λ x. elim x as (λ z. Option ℕ) [ true ↦ None | false ↦ Some 0 ]) (sym t ∙ f)))

not_true : (b : Bool) → (b ≡ true → false ≡ true) → b ≡ false
not_true true h = sym (h refl)
not_true false h = refl

no_given : {A : Type 0} (b : Bool) (o : Option A) → b ≡ false → given b o ≡ None
no_given {A} b o h = ap (λ x. given x o) h

-- a difference is one of two texts
record Two (s t : Option Bytes) : Type 0 where
  one : Bytes
  other : Bytes
  is_one : s ≡ Some one
  is_other : t ≡ Some other
  two : not (same_bytes one other) ≡ true

differ_two : (s t : Option Bytes) → differ s t ≡ true → Two s t
differ_two (Some s) (Some t) h = record { one = s; other = t; is_one = refl; is_other = refl; two = h }
differ_two None None h = true_or_false true refl (sym h)
differ_two (Some s) None h = true_or_false true refl (sym h)
differ_two None (Some t) h = true_or_false true refl (sym h)

not_not : (b : Bool) → not b ≡ false → b ≡ true
not_not true h = refl
not_not false h = sym h

alike : (s t : Bytes) → differ (Some s) (Some t) ≡ false → s ≡ t
alike s t h = bytes_eq s t (not_not (same_bytes s t) h)

not_two : (s : Bytes) → not (same_bytes s s) ≡ true → false ≡ true
not_two s h = ap not (sym (bytes_refl s)) ∙ h

named_alike : (o : Option Bytes) (n : Bytes) → names o n ≡ true → o ≡ Some n
named_alike None n h = true_or_false true refl (sym h)
named_alike (Some m) n h = ap Some (bytes_eq m n h)

both_named : (o q : Option Bytes) → option_map_or (names o) q false ≡ true → (n : Bytes) × (o ≡ Some n) × (q ≡ Some n)
both_named o None h = true_or_false true refl (sym h)
both_named o (Some n) h = (n, named_alike o n h, refl)

module _ (E : Environment) where
  abbrev Told : ℕ → Bytes → Type 0
  Told i n = told_name E i ≡ Some n

  abbrev differ_at : ℕ → ℕ → Bool
  differ_at i j = differ (text_of_entry E i) (text_of_entry E j)

  told_is : (i : ℕ) (n t : Bytes) → name_at E i ≡ Some n → text_of_entry E i ≡ Some t → Told i n
  told_is i n t h k = ap₂ (λ (x : Option Bytes) (y : Option Bytes). given (is_some x) y) k h

  pub told_text : (i : ℕ) (n : Bytes) → Told i n → is_some (text_of_entry E i) ≡ true
  told_text i n h = (given_some (is_some (text_of_entry E i)) (name_at E i) h).0

  there : (o : Option Bytes) → is_some o ≡ true → (t : Bytes) × (o ≡ Some t)
  there (Some t) h = (t, refl)
  there None h = true_or_false true refl (sym h)

  text_there : (i : ℕ) (n : Bytes) → Told i n → (t : Bytes) × (text_of_entry E i ≡ Some t)
  text_there i n h = there (text_of_entry E i) (told_text i n h)

  one_name : (i : ℕ) (m n : Bytes) → Told i m → Told i n → m ≡ n
  one_name i m n h k = some_eq (sym h ∙ k)

  -- a clash is one of two entries of one name with two texts
  record Clashing (i j : ℕ) : Type 0 where
    name : Bytes
    first : Told i name
    second : Told j name
    two : differ_at i j ≡ true

  clash_says : (i j : ℕ) → entries_clash E i j ≡ true → Clashing i j
  clash_says i j h =
      let b = both_true (option_map_or (names (name_at E i)) (name_at E j) false) (differ_at i j) h in
      let n = both_named (name_at E i) (name_at E j) b.0 in
      let t = differ_two (text_of_entry E i) (text_of_entry E j) b.1 in
      record { name = n.0; first = told_is i n.0 t.one n.1 t.is_one; second = told_is j n.0 t.other n.2 t.is_other; two = b.1 }

  one_or_other : (b d : Bool) → b ≡ true → (b && d) ≡ d
  one_or_other b d h = ap (λ x. x && d) h

  told_clash : (i j : ℕ) (n : Bytes) → Told i n → Told j n → entries_clash E i j ≡ differ_at i j
  told_clash i j n h k =
      let a = (given_some (is_some (text_of_entry E i)) (name_at E i) h).1 in
      let b = (given_some (is_some (text_of_entry E j)) (name_at E j) k).1 in
      one_or_other (option_map_or (names (name_at E i)) (name_at E j) false) (differ_at i j) (ap₂ (λ o q. option_map_or (names o) q false) a b ∙ bytes_refl n)

  -- nothing clashes with an entry where whatever does would be told so
  no_clash : (i : ℕ) → ((j : ℕ) → j < i → Clashing j i → false ≡ true) → clash_of E i ≡ None
  no_clash i h = below_all i (λ j. given (entries_clash E j i) (Some (Clash j i))) (λ j lt. no_given (entries_clash E j i) _ (not_true (entries_clash E j i) (λ c. h j lt (clash_says j i c))))

  abbrev under : Bytes → ℕ → Option ℕ
  under n j = given (names (told_name E j) n) (Some j)

  is_under : (n : Bytes) (j : ℕ) → Told j n → under n j ≡ Some j
  is_under n j h = ap (λ (o : Option Bytes). given (names o n) (Some j)) h ∙ ap (λ b. given b (Some j)) (bytes_refl n)

  pub clash_untold : (i : ℕ) → told_name E i ≡ None → clash_of E i ≡ None
  clash_untold i h = no_clash i (λ j lt c. absurd (none≢some (sym h ∙ c.second)))

  pub clash_new : (i : ℕ) (n : Bytes) → Told i n → first_told E i n ≡ None → clash_of E i ≡ None
  clash_new i n h none =
      no_clash i (λ j lt c. absurd (none≢some (sym (below_none i (under n) none j lt) ∙ is_under n j (subst (Told j) (one_name i c.name n c.second h) c.first))))

  -- the first of the name, where there is one
  pub record First (i f : ℕ) (n : Bytes) : Type 0 where
    pub before : f < i
    pub told : Told f n
    pub least : (j : ℕ) → j < f → Told j n → false ≡ true

  pub first_is : (i f : ℕ) (n : Bytes) → first_told E i n ≡ Some f → First i f n
  first_is i f n h =
      let l = below_some i (under n) f h in
      let g = given_some (names (told_name E l.at) n) (Some l.at) l.is in
      let at : l.at ≡ f = some_eq g.1 in
      record {
        before = subst (λ k. k < i) at l.below;
        told = subst (λ k. Told k n) at (named_alike (told_name E l.at) n g.0);
        least = λ j lt t. absurd (none≢some (sym (l.none j (subst (λ k. j < k) (sym at) lt)) ∙ is_under n j t));
      }

  pub clash_same : (i f : ℕ) (n : Bytes) → Told i n → first_told E i n ≡ Some f → differ_at f i ≡ false → ((j : ℕ) → j < i → clash_of E j ≡ None) → clash_of E i ≡ None
  clash_same i f n h first same apart = no_clash i on where
    x : First i f n
    x = first_is i f n first

    on : (j : ℕ) → j < i → Clashing j i → false ≡ true
    on j lt c = by (cases_order f j) where
      t : Told j n
      t = subst (Told j) (one_name i c.name n c.second h) c.first

      text_f : (s : Bytes) × (text_of_entry E f ≡ Some s)
      text_f = text_there f n x.told

      text_j : (s : Bytes) × (text_of_entry E j ≡ Some s)
      text_j = text_there j n t

      text_i : (s : Bytes) × (text_of_entry E i ≡ Some s)
      text_i = text_there i n h

      by : (f ≡ j) ⊎ ((f < j) ⊎ (j < f)) → false ≡ true
      by (inl e) = sym same ∙ ap (λ k. differ_at k i) e ∙ c.two
      by (inr (inr before)) = x.least j before t
      by (inr (inl after)) =
          let none = below_none j (λ k. given (entries_clash E k j) (Some (Clash k j))) (apart j lt) f after in
          let apart_f : entries_clash E f j ≡ false = not_true (entries_clash E f j) (λ yes. absurd (none≢some (sym none ∙ ap (λ b. given b (Some (Clash f j))) yes))) in
          let fj : text_f.0 ≡ text_j.0 = alike text_f.0 text_j.0 (ap₂ differ (sym text_f.1) (sym text_j.1) ∙ sym (told_clash f j n x.told t) ∙ apart_f) in
          let fi : text_f.0 ≡ text_i.0 = alike text_f.0 text_i.0 (ap₂ differ (sym text_f.1) (sym text_i.1) ∙ same) in
          let ji : text_j.0 ≡ text_i.0 = sym fj ∙ fi in
          not_two text_i.0 (ap (λ s. not (same_bytes s text_i.0)) (sym ji) ∙ ap₂ differ (sym text_j.1) (sym text_i.1) ∙ c.two)

  pub clash_found : (i f : ℕ) (n : Bytes) → i < length E → Told i n → first_told E i n ≡ Some f → differ_at f i ≡ true → ((j : ℕ) → j < i → clash_of E j ≡ None) → first_entry_clash E ≡ Some (Clash f i)
  clash_found i f n within h first two apart =
      let x = first_is i f n first in
      let here = ap (λ b. given b (Some (Clash f i))) (told_clash f i n x.told h ∙ two) in
      let none : (j : ℕ) → j < f → given (entries_clash E j i) (Some (Clash j i)) ≡ None =
      λ j lt. no_given (entries_clash E j i) _ (not_true (entries_clash E j i) (λ yes.
      let c = clash_says j i yes in
      x.least j lt (subst (Told j) (one_name i c.name n c.second h) c.first))) in
      below_is (length E) (clash_of E) i (Clash f i) within (below_is i (λ j. given (entries_clash E j i) (Some (Clash j i))) f (Clash f i) x.before here none) apart

  pub clash_nowhere : (i : ℕ) → i ≡ length E → ((j : ℕ) → j < i → clash_of E j ≡ None) → first_entry_clash E ≡ None
  clash_nowhere i e apart = below_all (length E) (clash_of E) (λ j lt. apart j (omega (arith, lt, e)))

  pub apart_next : (i k : ℕ) → k ≡ i + 1 → ((j : ℕ) → j < i → clash_of E j ≡ None) → clash_of E i ≡ None → (j : ℕ) → j < k → clash_of E j ≡ None
  apart_next i k e apart here j lt = on (cases_order j i) where
    on : (j ≡ i) ⊎ ((j < i) ⊎ (i < j)) → clash_of E j ≡ None
    on (inl is) = ap (clash_of E) is ∙ here
    on (inr (inl before)) = apart j before
    on (inr (inr after)) = absurd (omega (arith, lt, e, after))

  -- the first of each name, with one more entry
  else_none : (o : Option ℕ) → option_or o None ≡ o
  else_none None = refl
  else_none (Some k) = refl

  one_more : (i k : ℕ) (n : Bytes) → k ≡ i + 1 → first_told E k n ≡ option_or (first_told E i n) (under n i)
  one_more i k n e = let s : k ≡ suc i = omega (arith, e) in ap (λ m. first_told E m n) s

  pub told_skipped : (i k : ℕ) (n : Bytes) → k ≡ i + 1 → told_name E i ≡ None → first_told E k n ≡ first_told E i n
  told_skipped i k n e h = one_more i k n e ∙ ap (λ (o : Option Bytes). option_or (first_told E i n) (given (names o n) (Some i))) h ∙ else_none (first_told E i n)

  other_name : (i : ℕ) (m n : Bytes) → Told i m → same_bytes m n ≡ false → under n i ≡ None
  other_name i m n h k = ap (λ (o : Option Bytes). given (names o n) (Some i)) h ∙ ap (λ b. given b (Some i)) k

  pub told_kept : (i k f : ℕ) (m n : Bytes) → k ≡ i + 1 → Told i m → first_told E i m ≡ Some f → first_told E k n ≡ first_told E i n
  told_kept i k f m n e h first = one_more i k n e ∙ on (same_bytes m n) refl where
    on : (b : Bool) → same_bytes m n ≡ b → option_or (first_told E i n) (under n i) ≡ first_told E i n
    on true is =
        let there : first_told E i n ≡ Some f = ap (first_told E i) (sym (bytes_eq m n is)) ∙ first in
        ap (λ o. option_or o (under n i)) there ∙ sym there
    on false is = ap (option_or (first_told E i n)) (other_name i m n h is) ∙ else_none (first_told E i n)

  pub told_put : (i k : ℕ) (m n : Bytes) → k ≡ i + 1 → Told i m → first_told E i m ≡ None → first_told E k n ≡ put_number m i (first_told E i) n
  told_put i k m n e h none = one_more i k n e ∙ on (same_bytes m n) refl where
    on : (b : Bool) → same_bytes m n ≡ b → option_or (first_told E i n) (under n i) ≡ (if same_bytes m n then Some i else first_told E i n)
    on true is =
        let same : m ≡ n = bytes_eq m n is in
        ap (λ o. option_or o (under n i)) (ap (first_told E i) (sym same) ∙ none) ∙ is_under n i (subst (Told i) same h) ∙ sym (ap (λ b. if b then Some i else first_told E i n) is)
    on false is =
        ap (option_or (first_told E i n)) (other_name i m n h is) ∙ else_none (first_told E i n) ∙ sym (ap (λ b. if b then Some i else first_told E i n) is)
