-- What is noted under each key, after one more number is noted and after one is forgotten.
use Rattle.std.proofs.Common.{Ordering, Less, Equal, Greater, ◌≡◌, refl, sym, ap, ◌∙◌, ℕ, cond, Bool, true, false, arith, List, [], ◌∷◌, map, Option, Some, None, nat_eq}
use Rattle.std.specs.Ordering.{nat_cmp, is_eq, match_ordering}
use Rattle.std.specs.Cmp.Lexicographic.{slice_cmp}
use Rattle.std.specs.Map.{lookup, remove_entry}
use Rattle.std.specs.BTreeMap.{insert_entry, is_at}
use Rattle.std.specs.Option.{is_some, option_or}
use Rattle.std.proofs.lemmas.Bool.Decides.{nat_tests}
use mathlib.Core.Bool.{true≢false}
use Rattle.ac_types.proofs.Same.{bytes_eq, bytes_refl}
use Rattle.ac_types.proofs.FirstLaws.{none≢some, some_eq}
use Rattle.ac_types.specs.Types.{Bytes, same_bytes}
use Rattle.ac_types.specs.Partial.{given}
use Rattle.ac_index.specs.Noted.{Noted, first_under, but, forgetting}

-- two byte strings that compare alike are the same, and no others
pub same_order : (a b : Bytes) → is_eq (slice_cmp nat_cmp a b) ≡ same_bytes a b
same_order [] [] = refl
same_order [] (y ∷ ys) = refl
same_order (x ∷ xs) [] = refl
same_order (x ∷ xs) (y ∷ ys) = let rest = same_order xs ys in grind (arith, nat_tests)

same_back : (a b : Bytes) → same_bytes a b ≡ same_bytes b a
same_back a b = by (same_bytes a b) (same_bytes b a) refl refl
  where
    by : (s t : Bool) → same_bytes a b ≡ s → same_bytes b a ≡ t → same_bytes a b ≡ same_bytes b a
    by true true p q = p ∙ sym q
    by false false p q = p ∙ sym q
    by true false p q = absurd (true≢false (sym (ap (λ x. same_bytes x a) (sym (bytes_eq a b p)) ∙ bytes_refl a) ∙ q))
    by false true p q = absurd (true≢false (sym (ap (λ x. same_bytes x b) (sym (bytes_eq b a q)) ∙ bytes_refl b) ∙ p))

order_back : (a b : Bytes) → is_eq (slice_cmp nat_cmp a b) ≡ same_bytes b a
order_back a b = same_order a b ∙ same_back a b

-- a test, asked twice
twice : {A : Type 0} (s : Bool) (x y z : A) → cond s x z ≡ cond s x (cond s y z)
twice true x y z = refl
twice false x y z = refl

-- two tests that don't both pass
swapped : {A : Type 0} (s t : Bool) (x y z : A) → (s ≡ true → t ≡ true → ⊥) → cond t y (cond s x z) ≡ cond s x (cond t y z)
swapped true true x y z h = absurd (h refl refl)
swapped true false x y z h = refl
swapped false t x y z h = refl

module _ {K : Type 0} (b : K → Bytes) where
  -- keys by their bytes
  abbrev pub seen : List (K × ℕ) → Noted
  seen es = map (λ e. (b e.0, e.1)) es

  abbrev pub key_cmp : K → K → Ordering
  key_cmp x y = slice_cmp nat_cmp (b x) (b y)

  abbrev pub passes : Bytes → K → Bool
  passes q = is_at (λ x. slice_cmp nat_cmp q (b x))

  -- what is found
  pub found_at : (es : List (K × ℕ)) (q : Bytes) → lookup (passes q) es ≡ first_under (seen es) q
  found_at [] q = refl
  found_at (e ∷ es) q =
      ap (λ o. cond (is_eq (slice_cmp nat_cmp q (b e.0))) (Some e.1) o) (found_at es q)
      ∙ ap (λ t. cond t (Some e.1) (first_under (seen es) q)) (order_back q (b e.0))

  -- one more
  pub put_at : (es : List (K × ℕ)) (key : K) (v : ℕ) (k : Bytes) → first_under (seen (insert_entry key_cmp es key v)) k ≡ cond (same_bytes (b key) k) (Some v) (first_under (seen es) k)
  put_at [] key v k = refl
  put_at (e ∷ es) key v k = by (put_at es key v k) (slice_cmp nat_cmp (b key) (b e.0)) refl
    where
      rest : Option ℕ
      rest = first_under (seen es) k

      apart : slice_cmp nat_cmp (b key) (b e.0) ≡ Greater → same_bytes (b key) k ≡ true → same_bytes (b e.0) k ≡ true → ⊥
      apart h s t =
          let same : b e.0 ≡ b key = bytes_eq (b e.0) k t ∙ sym (bytes_eq (b key) k s) in
          let equal : same_bytes (b e.0) (b key) ≡ true = ap (λ x. same_bytes x (b key)) same ∙ bytes_refl (b key) in
          true≢false (sym equal ∙ sym (order_back (b key) (b e.0)) ∙ ap is_eq h)

      by : first_under (seen (insert_entry key_cmp es key v)) k ≡ cond (same_bytes (b key) k) (Some v) rest → (o : Ordering) → slice_cmp nat_cmp (b key) (b e.0) ≡ o →
          first_under (seen (match_ordering o ((key, v) ∷ e ∷ es) ((e.0, v) ∷ es) (e ∷ insert_entry key_cmp es key v))) k ≡ cond (same_bytes (b key) k) (Some v) (cond (same_bytes (b e.0) k) (Some e.1) rest)
      by more Less h = refl
      by more Equal h =
          let same : b e.0 ≡ b key = bytes_eq (b e.0) (b key) (sym (order_back (b key) (b e.0)) ∙ ap is_eq h) in
          ap (λ x. cond (same_bytes x k) (Some v) rest) same ∙ twice (same_bytes (b key) k) (Some v) (Some e.1) rest
          ∙ ap (λ x. cond (same_bytes (b key) k) (Some v) (cond (same_bytes x k) (Some e.1) rest)) (sym same)
      by more Greater h =
          ap (λ o. cond (same_bytes (b e.0) k) (Some e.1) o) more
          ∙ swapped (same_bytes (b key) k) (same_bytes (b e.0) k) (Some v) (Some e.1) rest (apart h)

  -- one less: other keys keep theirs
  others : (es : List (K × ℕ)) (q k : Bytes) → same_bytes q k ≡ false → first_under (seen (remove_entry (passes q) es)) k ≡ first_under (seen es) k
  others [] q k h = refl
  others (e ∷ es) q k h = on (others es q k h) (is_eq (slice_cmp nat_cmp q (b e.0))) refl
    where
      on : first_under (seen (remove_entry (passes q) es)) k ≡ first_under (seen es) k → (t : Bool) → is_eq (slice_cmp nat_cmp q (b e.0)) ≡ t →
          first_under (seen (cond t es (e ∷ remove_entry (passes q) es))) k ≡ cond (same_bytes (b e.0) k) (Some e.1) (first_under (seen es) k)
      on more true i =
          let same : b e.0 ≡ q = bytes_eq (b e.0) q (sym (order_back q (b e.0)) ∙ i) in
          sym (ap (λ t. cond t (Some e.1) (first_under (seen es) k)) (ap (λ x. same_bytes x k) same ∙ h))
      on more false i = ap (λ o. cond (same_bytes (b e.0) k) (Some e.1) o) more

  pub gone_at : (es : List (K × ℕ)) (q : Bytes) → lookup (passes q) (remove_entry (passes q) es) ≡ None →
      (k : Bytes) → first_under (seen (remove_entry (passes q) es)) k ≡ cond (same_bytes q k) None (first_under (seen es) k)
  gone_at es q none k = on (same_bytes q k) refl
    where
      left : List (K × ℕ)
      left = remove_entry (passes q) es

      on : (t : Bool) → same_bytes q k ≡ t → first_under (seen left) k ≡ cond t None (first_under (seen es) k)
      on true h = ap (first_under (seen left)) (sym (bytes_eq q k h)) ∙ sym (found_at left q) ∙ none
      on false h = others es q k h

pub none_is : {A : Type 0} (o : Option A) → is_some o ≡ false → o ≡ None
none_is None h = refl
none_is (Some x) h = absurd (true≢false h)

pub or_none : {A : Type 0} (o : Option A) → option_or o None ≡ o
or_none None = refl
or_none (Some x) = refl

-- a key that has none
pub noted_new : (old new : Noted) (kept : Bytes) (i : ℕ) → first_under old kept ≡ None → ((k : Bytes) → first_under new k ≡ cond (same_bytes kept k) (Some i) (first_under old k)) →
    (k : Bytes) → first_under new k ≡ option_or (first_under old k) (given (same_bytes kept k) (Some i))
noted_new old new kept i h u k = u k ∙ by (same_bytes kept k) refl
  where
    by : (t : Bool) → same_bytes kept k ≡ t → cond t (Some i) (first_under old k) ≡ option_or (first_under old k) (given t (Some i))
    by true e = ap (λ o. option_or o (Some i)) (sym (ap (first_under old) (sym (bytes_eq kept k e)) ∙ h))
    by false e = sym (or_none (first_under old k))

-- a key that has one
pub noted_old : (old : Noted) (kept : Bytes) (i j : ℕ) → first_under old kept ≡ Some j → (k : Bytes) → first_under old k ≡ option_or (first_under old k) (given (same_bytes kept k) (Some i))
noted_old old kept i j h k = by (same_bytes kept k) refl
  where
    by : (t : Bool) → same_bytes kept k ≡ t → first_under old k ≡ option_or (first_under old k) (given t (Some i))
    by true e = let at = ap (first_under old) (sym (bytes_eq kept k e)) ∙ h in at ∙ sym (ap (λ o. option_or o (Some i)) at)
    by false e = sym (or_none (first_under old k))

pub self_eq : (i : ℕ) → nat_eq i i ≡ true
self_eq i = grind (arith, nat_tests)

other_eq : (j i : ℕ) → (j ≡ i → ⊥) → nat_eq j i ≡ false
other_eq j i h = grind (arith, nat_tests)

pub but_it : (i : ℕ) (o : Option ℕ) → o ≡ Some i → None ≡ but i o
but_it i o e = sym (ap (but i) e ∙ ap (λ t. cond t None (Some i)) (self_eq i))

-- what isn't there can't be left out
pub but_other : (i : ℕ) (o : Option ℕ) → (o ≡ Some i → ⊥) → but i o ≡ o
but_other i None h = refl
but_other i (Some j) h = ap (λ t. cond t None (Some j)) (other_eq j i (λ e. h (ap Some e)))

pub but_gone : (i : ℕ) (o : Option ℕ) → but i o ≡ Some i → ⊥
but_gone i None e = none≢some e
but_gone i (Some j) e = on (nat_eq j i) refl e
  where
    on : (t : Bool) → nat_eq j i ≡ t → cond t None (Some j) ≡ Some i → ⊥
    on true h f = none≢some f
    on false h f = true≢false (sym (self_eq i) ∙ ap (λ k. nat_eq k i) (sym (some_eq f)) ∙ h)

-- the key has the number
pub forgot_it : (old new : Noted) (kept : Bytes) (i : ℕ) → first_under old kept ≡ Some i → ((k : Bytes) → first_under new k ≡ cond (same_bytes kept k) None (first_under old k)) →
    (k : Bytes) → first_under new k ≡ forgetting (same_bytes kept k) i (first_under old k)
forgot_it old new kept i h u k = u k ∙ by (same_bytes kept k) refl
  where
    by : (t : Bool) → same_bytes kept k ≡ t → cond t None (first_under old k) ≡ forgetting t i (first_under old k)
    by true e = but_it i (first_under old k) (ap (first_under old) (sym (bytes_eq kept k e)) ∙ h)
    by false e = refl

-- it has another, or none
pub forgot_none : (old : Noted) (kept : Bytes) (i : ℕ) → (first_under old kept ≡ Some i → ⊥) → (k : Bytes) → first_under old k ≡ forgetting (same_bytes kept k) i (first_under old k)
forgot_none old kept i h k = by (same_bytes kept k) refl
  where
    by : (t : Bool) → same_bytes kept k ≡ t → first_under old k ≡ forgetting t i (first_under old k)
    by true e = sym (but_other i (first_under old k) (λ f. h (ap (first_under old) (bytes_eq kept k e) ∙ f)))
    by false e = refl

-- what a map of keys has, by the bytes of the keys
module _ {K : Type 0} (b : K → Bytes) where
  pub noted_at : (old new : List (K × ℕ)) (key : K) (i : ℕ) → first_under (seen b old) (b key) ≡ None → new ≡ insert_entry (key_cmp b) old key i →
      (k : Bytes) → first_under (seen b new) k ≡ option_or (first_under (seen b old) k) (given (same_bytes (b key) k) (Some i))
  noted_at old new key i none is = noted_new (seen b old) (seen b new) (b key) i none (λ k. ap (λ es. first_under (seen b es) k) is ∙ put_at b old key i k)

  pub forgot_at : (old new : List (K × ℕ)) (q : Bytes) (i : ℕ) → first_under (seen b old) q ≡ Some i → new ≡ remove_entry (passes b q) old → lookup (passes b q) new ≡ None →
      (k : Bytes) → first_under (seen b new) k ≡ forgetting (same_bytes q k) i (first_under (seen b old) k)
  forgot_at old new q i there is gone =
      forgot_it (seen b old) (seen b new) q i there (λ k. ap (λ es. first_under (seen b es) k) is ∙ gone_at b old q (sym (ap (lookup (passes b q)) is) ∙ gone) k)
