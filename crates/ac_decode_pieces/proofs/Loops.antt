-- A loop that reads so many items: what was read stands in front of what is left to read.
use Rattle.std.proofs.Common.{◌≡◌, refl, sym, ap, ◌∙◌, ℕ, suc, ◌+◌, ◌-◌, ◌<◌, ◌≤◌, List, [], ◌∷◌, ◌++◌, map, Option, Some, None}
use Rattle.std.specs.Prelude.{option_and_then, option_map}
use Rattle.std.proofs.lemmas.List.{map-append}
use native.Mathlib.Omega.{arith}
use Rattle.ac_types.specs.Types.{Bytes, Typ, typs, typ, no_types}
use Rattle.ac_terms.specs.PacketReading.{ReadsPart, one, times}
use Rattle.ac_decode_pieces.specs.declared.fault.PieceFault.{PieceFault}
use Rattle.ac_decode_pieces.specs.declared.fault.PieceFault.TheVariants as fault
use Rattle.ac_decode_pieces.specs.Readers.{NoneRead}

-- items in front of a list of their own kind
abbrev pub onto : {A L : Type 0} → (A → L → L) → List A → L → L
onto cons [] l = l
onto cons (x ∷ xs) l = cons x (onto cons xs l)

onto_last : {A L : Type 0} (cons : A → L → L) (xs : List A) (x : A) (l : L) → onto cons (xs ++ x ∷ []) l ≡ onto cons xs (cons x l)
onto_last cons [] x l = refl
onto_last cons (y ∷ ys) x l = ap (cons y) (onto_last cons ys x l)

abbrev pub put_front : {A L : Type 0} → (A → L → L) → List A → L × Bytes → L × Bytes
put_front cons xs p = (onto cons xs p.0, p.1)

abbrev pub with_front : {A L : Type 0} → (A → L → L) → List A → Option (L × Bytes) → Option (L × Bytes)
with_front cons xs o = option_map (put_front cons xs) o

abbrev item_made : {A L : Type 0} → (A → L → L) → A → L × Bytes → L × Bytes
item_made cons x p = (cons x p.0, p.1)

module _ {A L : Type 0} (nil : L) (cons : A → L → L) (f : ReadsPart A) where
  one_more : (xs : List A) (x : A) (o : Option (L × Bytes)) → with_front cons xs (option_map (item_made cons x) o) ≡ with_front cons (xs ++ x ∷ []) o
  one_more xs x None = refl
  one_more xs x (Some p) = ap (λ l. Some (l, p.1)) (sym (onto_last cons xs x p.0))

  next_read : (n : ℕ) (bs : Bytes) (x : A) (after : Bytes) → f bs ≡ Some (x, after) → times nil cons f (suc n) bs ≡ option_map (item_made cons x) (times nil cons f n after)
  next_read n bs x after e = ap (option_and_then (λ p. one (cons p.0) (times nil cons f n) p.1)) e

  pub starts : (n : ℕ) (bs : Bytes) → with_front cons [] (times nil cons f (n - 0) bs) ≡ times nil cons f n bs
  starts n bs = same (times nil cons f (n - 0) bs) ∙ ap (λ k. times nil cons f k bs) less
    where
      same : (o : Option (L × Bytes)) → with_front cons [] o ≡ o
      same None = refl
      same (Some p) = refl

      less : n - 0 ≡ n
      less = omega arith

  pub goes_on : {X : Type 0} (view : X → A) (xs ys : List X) (y : X) (count i : ℕ) (bs after : Bytes) (total : Option (L × Bytes)) → i < count → f bs ≡ Some (view y, after) → ys ≡ xs ++ y ∷ [] →
      with_front cons (map view xs) (times nil cons f (count - i) bs) ≡ total → with_front cons (map view ys) (times nil cons f (count - (i + 1)) after) ≡ total
  goes_on view xs ys y count i bs after total low e pushed so_far =
      let k : count - i ≡ suc (count - (i + 1)) = omega arith in
      let parts = ap (map view) pushed ∙ map-append view xs (y ∷ []) in
      ap (λ zs. with_front cons zs (times nil cons f (count - (i + 1)) after)) parts
      ∙ sym (one_more (map view xs) (view y) (times nil cons f (count - (i + 1)) after))
      ∙ ap (with_front cons (map view xs)) (sym (next_read (count - (i + 1)) bs (view y) after e))
      ∙ ap (λ n. with_front cons (map view xs) (times nil cons f n bs)) (sym k)
      ∙ so_far

  none_next : (n : ℕ) (bs : Bytes) → f bs ≡ None → times nil cons f (suc n) bs ≡ None
  none_next n bs e = ap (option_and_then (λ p. one (cons p.0) (times nil cons f n) p.1)) e

  ends_none : (front : List A) (count i : ℕ) (bs : Bytes) (total : Option (L × Bytes)) → i < count → f bs ≡ None → with_front cons front (times nil cons f (count - i) bs) ≡ total → total ≡ None
  ends_none front count i bs total low e so_far =
      let k : count - i ≡ suc (count - (i + 1)) = omega arith in
      sym so_far ∙ ap (λ n. with_front cons front (times nil cons f n bs)) k ∙ ap (with_front cons front) (none_next (count - (i + 1)) bs e)

  pub ends : (e : PieceFault) (front : List A) (count i : ℕ) (bs : Bytes) (total : Option (L × Bytes)) → i < count → NoneRead e (f bs) → with_front cons front (times nil cons f (count - i) bs) ≡ total → NoneRead e total
  ends (fault.Misfit at) front count i bs total low e so_far = ends_none front count i bs total low e so_far
  ends fault.Short front count i bs total low e so_far = ends_none front count i bs total low e so_far
  ends fault.Memory front count i bs total low e so_far = tt

  pub all_read : (front : List A) (count i : ℕ) (bs : Bytes) (total : Option (L × Bytes)) (l : L) → count ≤ i → with_front cons front (times nil cons f (count - i) bs) ≡ total → l ≡ onto cons front nil → total ≡ Some (l, bs)
  all_read front count i bs total l high so_far is =
      let k : count - i ≡ 0 = omega arith in
      sym so_far ∙ ap (λ n. with_front cons front (times nil cons f n bs)) k ∙ ap (λ x. Some (x, bs)) (sym is)

-- each kind of list is its items in front of the empty one
pub onto_list : {A : Type 0} (xs : List A) → xs ≡ onto (λ y ys. y ∷ ys) xs []
onto_list [] = refl
onto_list (x ∷ xs) = ap (λ ys. x ∷ ys) (onto_list xs)

pub onto_types : (xs : List Typ) → typs xs ≡ onto typ xs no_types
onto_types [] = refl
onto_types (x ∷ xs) = ap (typ x) (onto_types xs)
