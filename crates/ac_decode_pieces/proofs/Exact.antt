-- Exact reading: what is read is within its bounds and spelled so, and each spelling is read back.
use Rattle.std.proofs.Common.{◌≡◌, refl, sym, ap, subst, ◌∙◌, ℕ, zero, suc, Bool, true, ◌&&◌, List, [], ◌∷◌, ◌++◌, length, Option, Some, None, append_assoc}
use Rattle.std.specs.Prelude.{option_and_then, option_map, flat_map}
use Rattle.std.specs.List.{list_all}
use Rattle.ac_types.specs.Partial.{given}
use Rattle.ac_types.proofs.FirstLaws.{none≢some, some_eq, given_some}
use Rattle.ac_types.proofs.Same.{both_true, and_true, bytes_eq, bytes_refl}
use Rattle.ac_types.specs.Types.{Bytes, same_bytes}
use Rattle.ac_terms.specs.Spelling.{listed}
use Rattle.ac_terms.specs.PacketReading.{ReadsPart, one, two_parts_read, times, read_list}
use Rattle.ac_terms.proofs.Back.{Back, back_give, back_one, back_two, back_after}
use Rattle.ac_decode_pieces.specs.ExactReading.{passing, exactly}

-- what is read is within its bounds, and its spelling stands in front
pub record Took {A : Type 0} (P : A → Type 0) (spell : A → Bytes) (bs : Bytes) (a : A) (rest : Bytes) : Type 0 where
  pub fits : P a
  pub parts : bs ≡ spell a ++ rest

pub record IsExact {A : Type 0} (f : ReadsPart A) (P : A → Type 0) (spell : A → Bytes) : Type 0 where
  pub sound : (bs : Bytes) (a : A) (rest : Bytes) → f bs ≡ Some (a, rest) → Took P spell bs a rest
  pub back : (a : A) → P a → Back f (spell a) a

-- how a reading in steps went
pub record Once {A B : Type 0} (c : A → B) (o : Option (A × Bytes)) (b : B) (rest : Bytes) : Type 0 where
  pub first : A
  pub is : o ≡ Some (first, rest)
  pub made : b ≡ c first

abbrev with_made : {A B : Type 0} → (A → B) → A × Bytes → B × Bytes
with_made c p = (c p.0, p.1)

pub once : {A B : Type 0} (c : A → B) (o : Option (A × Bytes)) (b : B) (rest : Bytes) → option_map (with_made c) o ≡ Some (b, rest) → Once c o b rest
once c None b rest e = absurd (none≢some e)
once c (Some p) b rest e =
    let q = some_eq e in
    record { first = p.0; is = ap (λ r. Some (p.0, r)) (ap (λ (x : _ × Bytes). x.1) q); made = sym (ap (λ (x : _ × Bytes). x.0) q) }

pub record Twice {A B : Type 0} (o : Option (A × Bytes)) (g : A → ReadsPart B) (b : B) (rest : Bytes) : Type 0 where
  pub first : A
  pub mid : Bytes
  pub is : o ≡ Some (first, mid)
  pub later : g first mid ≡ Some (b, rest)

pub twice : {A B : Type 0} (o : Option (A × Bytes)) (g : A → ReadsPart B) (b : B) (rest : Bytes) → option_and_then (λ p. g p.0 p.1) o ≡ Some (b, rest) → Twice o g b rest
twice None g b rest e = absurd (none≢some e)
twice (Some p) g b rest e = record { first = p.0; mid = p.1; is = refl; later = e }

-- what is there under a test
pub record Passed {A : Type 0} (test : A × Bytes → Bool) (o : Option (A × Bytes)) (a : A) (rest : Bytes) : Type 0 where
  pub is : o ≡ Some (a, rest)
  pub passed : test (a, rest) ≡ true

pub passed : {A : Type 0} (test : A × Bytes → Bool) (o : Option (A × Bytes)) (a : A) (rest : Bytes) → option_and_then (λ p. given (test p) (Some p)) o ≡ Some (a, rest) → Passed test o a rest
passed test None a rest e = absurd (none≢some e)
passed test (Some p) a rest e =
    let g = given_some (test p) (Some p) e in
    record { is = g.1; passed = ap test (sym (some_eq g.1)) ∙ g.0 }

pub no_some : {A : Type 0} (o : Option A) → ((x : A) → o ≡ Some x → ⊥) → o ≡ None
no_some None f = refl
no_some (Some x) f = absurd (f x refl)

-- exactly what passes a test and is spelled so
module _ {A : Type 0} (test : A → Bool) (spell : A → Bytes) (f : ReadsPart A) where
  pub exactly_sound : (bs : Bytes) (a : A) (rest : Bytes) → exactly test spell f bs ≡ Some (a, rest) → Took (λ x. test x ≡ true) spell bs a rest
  exactly_sound bs a rest e =
      let p = passed (λ x. test x.0 && same_bytes bs (spell x.0 ++ x.1)) (f bs) a rest e in
      let q = both_true (test a) (same_bytes bs (spell a ++ rest)) p.passed in
      record { fits = q.0; parts = bytes_eq bs (spell a ++ rest) q.1 }

  at_spelling : (a : A) (rest : Bytes) → test a ≡ true → Back f (spell a) a → exactly test spell f (spell a ++ rest) ≡ Some (a, rest)
  at_spelling a rest t b =
      ap (option_and_then (λ p. given (test p.0 && same_bytes (spell a ++ rest) (spell p.0 ++ p.1)) (Some p))) (b.reads rest)
      ∙ ap (λ x. given x (Some (a, rest))) (and_true t (bytes_refl (spell a ++ rest)))

  pub exactly_some : (bs : Bytes) (a : A) (rest : Bytes) → test a ≡ true → Back f (spell a) a → bs ≡ spell a ++ rest → exactly test spell f bs ≡ Some (a, rest)
  exactly_some bs a rest t b e = ap (exactly test spell f) e ∙ at_spelling a rest t b

  pub exactly_none : (bs : Bytes) → ((a : A) (rest : Bytes) → test a ≡ true → bs ≡ spell a ++ rest → ⊥) → exactly test spell f bs ≡ None
  exactly_none bs none = no_some (exactly test spell f bs) (λ x e. let t = exactly_sound bs x.0 x.1 e in none x.0 x.1 t.fits t.parts)

  pub exact_exactly : ((a : A) → test a ≡ true → Back f (spell a) a) → IsExact (exactly test spell f) (λ x. test x ≡ true) spell
  exact_exactly back = record { sound = exactly_sound; back = λ a t. record { reads = λ r. at_spelling a r t (back a t) } }

-- what passes a further test
pub exact_passing : {A : Type 0} {f : ReadsPart A} {P : A → Type 0} {spell : A → Bytes} (test : A → Bool) → IsExact f P spell → IsExact (passing test f) (λ a. P a × (test a ≡ true)) spell
exact_passing {f = f} {P} {spell} test x = record {
  sound = λ bs a rest e. sounds bs a rest (passed (λ p. test p.0) (f bs) a rest e);
  back = λ a p. record { reads = λ r. ap (option_and_then (λ q. given (test q.0) (Some q))) ((x.back a p.0).reads r) ∙ ap (λ b. given b (Some (a, r))) p.1 };
}
  where
    sounds : (bs : Bytes) (a : _) (rest : Bytes) → Passed (λ p. test p.0) (f bs) a rest → Took (λ b. P b × (test b ≡ true)) spell bs a rest
    sounds bs a rest p = let t = x.sound bs a rest p.is in record { fits = (t.fits, p.passed); parts = t.parts }

-- other words for the bounds
pub exact_as : {A : Type 0} {f : ReadsPart A} {P : A → Type 0} {spell : A → Bytes} (Q : A → Type 0) → ((a : A) → P a → Q a) → ((a : A) → Q a → P a) → IsExact f P spell → IsExact f Q spell
exact_as Q to from x = record {
  sound = λ bs a rest e. let t = x.sound bs a rest e in record { fits = to a t.fits; parts = t.parts };
  back = λ a q. x.back a (from a q);
}

-- another spelling that is the same within the bounds
pub exact_spelled : {A : Type 0} {f : ReadsPart A} {P : A → Type 0} {spell t : A → Bytes} → ((a : A) → P a → spell a ≡ t a) → IsExact f P spell → IsExact f P t
exact_spelled {f = f} {P} same x = record {
  sound = λ bs a rest e. let u = x.sound bs a rest e in record { fits = u.fits; parts = u.parts ∙ ap (λ s. s ++ rest) (same a u.fits) };
  back = λ a p. subst (λ (s : Bytes). Back f s a) (same a p) (x.back a p);
}

-- two things that a third is made of
module _ {A B C : Type 0} (c : A → B → C) (l : C → A) (r : C → B) (whole : (x : C) → c (l x) (r x) ≡ x) (left : (a : A) (b : B) → l (c a b) ≡ a) (right : (a : A) (b : B) → r (c a b) ≡ b) where
  pub exact_two_parts : {f : ReadsPart A} {g : ReadsPart B} {P : A → Type 0} {Q : B → Type 0} {s : A → Bytes} {t : B → Bytes} → IsExact f P s → IsExact g Q t →
      IsExact (two_parts_read c f g) (λ x. P (l x) × Q (r x)) (λ x. s (l x) ++ t (r x))
  exact_two_parts {f} {g} {P} {Q} {s} {t} x y = record {
    sound = λ bs z rest e. sounds bs z rest (twice (f bs) (λ a. one (c a) g) z rest e);
    back = λ z p. record { reads = λ w. (back_two c (x.back (l z) p.0) (y.back (r z) p.1)).reads w ∙ ap (λ v. Some (v, w)) (whole z) };
  }
    where
      sounds : (bs : Bytes) (z : C) (rest : Bytes) → Twice (f bs) (λ a. one (c a) g) z rest → Took (λ v. P (l v) × Q (r v)) (λ v. s (l v) ++ t (r v)) bs z rest
      sounds bs z rest p =
          let q = once (c p.first) (g p.mid) z rest p.later in
          let u = x.sound bs p.first p.mid p.is in
          let v = y.sound p.mid q.first rest q.is in
          let lz = ap l q.made ∙ left p.first q.first in
          let rz = ap r q.made ∙ right p.first q.first in
          record {
            fits = (subst P (sym lz) u.fits, subst Q (sym rz) v.fits);
            parts = u.parts ∙ ap (λ w. s p.first ++ w) v.parts ∙ sym (append_assoc (s p.first) (t q.first) rest) ∙ ap (λ w. (s w ++ t q.first) ++ rest) (sym lz) ∙ ap (λ w. (s (l z) ++ t w) ++ rest) (sym rz);
          }

-- so many items, into a list of their own kind
module _ {A L : Type 0} (nil : L) (cons : A → L → L) (s : A → Bytes) (spells : L → Bytes) (count : L → ℕ) (P : A → Type 0) (All : L → Type 0)
    (spells_nil : spells nil ≡ []) (spells_cons : (a : A) (xs : L) → spells (cons a xs) ≡ s a ++ spells xs)
    (count_nil : count nil ≡ 0) (count_cons : (a : A) (xs : L) → count (cons a xs) ≡ suc (count xs))
    (all_nil : All nil) (all_cons : (a : A) (xs : L) → P a → All xs → All (cons a xs)) where
  pub times_sound : (f : ReadsPart A) → ((bs : Bytes) (a : A) (rest : Bytes) → f bs ≡ Some (a, rest) → Took P s bs a rest) →
      (n : ℕ) (bs : Bytes) (xs : L) (rest : Bytes) → times nil cons f n bs ≡ Some (xs, rest) → Took (λ x. All x × (count x ≡ n)) spells bs xs rest
  times_sound f sound zero bs xs rest e =
      let q = some_eq e in
      let is : nil ≡ xs = ap (λ (x : L × Bytes). x.0) q in
      let at : bs ≡ rest = ap (λ (x : L × Bytes). x.1) q in
      subst (λ x. Took (λ y. All y × (count y ≡ 0)) spells bs x rest) is (record { fits = (all_nil, count_nil); parts = at ∙ ap (λ x. x ++ rest) (sym spells_nil) })
  times_sound f sound (suc n) bs xs rest e =
      let p = twice (f bs) (λ a. one (cons a) (times nil cons f n)) xs rest e in
      let q = once (cons p.first) (times nil cons f n p.mid) xs rest p.later in
      let u = sound bs p.first p.mid p.is in
      let v = times_sound f sound n p.mid q.first rest q.is in
      subst (λ x. Took (λ y. All y × (count y ≡ suc n)) spells bs x rest) (sym q.made)
      (record {
        fits = (all_cons p.first q.first u.fits v.fits.0, count_cons p.first q.first ∙ ap suc v.fits.1);
        parts = u.parts ∙ ap (λ w. s p.first ++ w) v.parts ∙ sym (append_assoc (s p.first) (spells q.first) rest) ∙ ap (λ w. w ++ rest) (sym (spells_cons p.first q.first));
      })

-- lists with their count in front
abbrev pub AllOf : {A : Type 0} → (A → Type 0) → List A → Type 0
AllOf P [] = Unit {0}
AllOf P (x ∷ xs) = P x × AllOf P xs

pub each_passes : {A : Type 0} (test : A → Bool) (xs : List A) → list_all test xs ≡ true → AllOf (λ x. test x ≡ true) xs
each_passes test [] e = tt
each_passes test (x ∷ xs) e = let p = both_true (test x) (list_all test xs) e in (p.0, each_passes test xs p.1)

pub of_all : {A : Type 0} (test : A → Bool) (xs : List A) → AllOf (λ x. test x ≡ true) xs → list_all test xs ≡ true
of_all test [] a = refl
of_all test (x ∷ xs) a = and_true a.0 (of_all test xs a.1)

pub all_to : {A : Type 0} {P Q : A → Type 0} → ((x : A) → P x → Q x) → (xs : List A) → AllOf P xs → AllOf Q xs
all_to f [] a = tt
all_to f (x ∷ xs) a = (f x a.0, all_to f xs a.1)

module _ {A : Type 0} {f : ReadsPart A} {P : A → Type 0} {s : A → Bytes} (x : IsExact f P s) where
  items_back : (xs : List A) → AllOf P xs → Back (times [] (λ y ys. y ∷ ys) f (length xs)) (flat_map s xs) xs
  items_back [] a = back_give []
  items_back (y ∷ ys) a = back_after (λ z. one (λ zs. z ∷ zs) (times [] (λ z zs. z ∷ zs) f (length ys))) (x.back y a.0) (back_one (λ zs. y ∷ zs) (items_back ys a.1))

  pub exact_list : {count : ReadsPart ℕ} {U : ℕ → Type 0} {number : ℕ → Bytes} → IsExact count U number → IsExact (read_list count f) (λ xs. U (length xs) × AllOf P xs) (listed number s)
  exact_list {count} {U} {number} y = record {
    sound = λ bs xs rest e. sounds bs xs rest (twice (count bs) (times [] (λ z zs. z ∷ zs) f) xs rest e);
    back = λ xs p. back_after (times [] (λ z zs. z ∷ zs) f) (y.back (length xs) p.0) (items_back xs p.1);
  }
    where
      sounds : (bs : Bytes) (xs : List A) (rest : Bytes) → Twice (count bs) (times [] (λ z zs. z ∷ zs) f) xs rest → Took (λ zs. U (length zs) × AllOf P zs) (listed number s) bs xs rest
      sounds bs xs rest p =
          let u = y.sound bs p.first p.mid p.is in
          let v = times_sound [] (λ z zs. z ∷ zs) s (flat_map s) length P (AllOf P) refl (λ z zs. refl) refl (λ z zs. refl) tt (λ z zs a b. (a, b)) f x.sound p.first p.mid xs rest p.later in
          record {
            fits = (subst U (sym v.fits.1) u.fits, v.fits.0);
            parts = u.parts ∙ ap (λ w. number p.first ++ w) v.parts ∙ sym (append_assoc (number p.first) (flat_map s xs) rest) ∙ ap (λ n. (number n ++ flat_map s xs) ++ rest) (sym v.fits.1);
          }
