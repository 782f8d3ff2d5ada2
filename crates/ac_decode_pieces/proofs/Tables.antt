-- Exact reading by a table: a tag says how to go on.
use Rattle.std.proofs.Common.{◌≡◌, sym, ap, subst, ◌∙◌, ℕ, zero, suc, ◌+◌, List, [], ◌∷◌, ◌++◌, Some, append_assoc}
use Rattle.std.specs.Prelude.{option_and_then, slice_get}
use native.Mathlib.Omega.{arith}
use Rattle.ac_types.proofs.FirstLaws.{none≢some, some_eq}
use Rattle.ac_types.specs.Types.{Bytes}
use Rattle.ac_terms.specs.PacketReading.{ReadsPart, give, one, two_parts_read, three, tagged, nothing}
use Rattle.ac_decode_pieces.proofs.Exact.{Took, IsExact, once, twice}

module _ {A : Type 0} (P : A → Type 0) (spell : A → Bytes) where
  abbrev pub SoundAt : ℕ → ReadsPart A → Type 0
  SoundAt tag g = (bs : Bytes) (a : A) (rest : Bytes) → g bs ≡ Some (a, rest) → Took P spell (tag ∷ bs) a rest

  -- each entry, from that tag on
  abbrev pub SoundFrom : ℕ → List (ReadsPart A) → Type 0
  SoundFrom n [] = Unit {0}
  SoundFrom n (g ∷ gs) = SoundAt n g × SoundFrom (suc n) gs

  at_entry : (gs : List (ReadsPart A)) (n m tag : ℕ) (bs : Bytes) (a : A) (rest : Bytes) → tag ≡ n + m → SoundFrom n gs → option_and_then (λ (g : ReadsPart A). g bs) (slice_get gs m) ≡ Some (a, rest) → Took P spell (tag ∷ bs) a rest
  at_entry [] n m tag bs a rest e s h = absurd (none≢some h)
  at_entry (g ∷ gs) n zero tag bs a rest e s h =
      let same : tag ≡ n = omega arith in
      subst (λ t. Took P spell (t ∷ bs) a rest) (sym same) (s.0 bs a rest h)
  at_entry (g ∷ gs) n (suc m) tag bs a rest e s h = at_entry gs (suc n) m tag bs a rest (omega arith) s.1 h

  pub table_sound : (gs : List (ReadsPart A)) → SoundFrom 0 gs → (bs : Bytes) (a : A) (rest : Bytes) → tagged gs bs ≡ Some (a, rest) → Took P spell bs a rest
  table_sound gs s [] a rest h = absurd (none≢some h)
  table_sound gs s (tag ∷ bs) a rest h = at_entry gs 0 tag tag bs a rest (omega arith) s h

  pub sound_nothing : (tag : ℕ) → SoundAt tag nothing
  sound_nothing tag bs a rest h = absurd (none≢some h)

  pub sound_give : (tag : ℕ) (x : A) → P x → spell x ≡ tag ∷ [] → SoundAt tag (give x)
  sound_give tag x p s bs a rest h =
      let q = some_eq h in
      let is : x ≡ a = ap (λ (y : A × Bytes). y.0) q in
      let at : bs ≡ rest = ap (λ (y : A × Bytes). y.1) q in
      subst (λ y. Took P spell (tag ∷ bs) y rest) is (record { fits = p; parts = ap (λ y. tag ∷ y) at ∙ ap (λ y. y ++ rest) (sym s) })

  pub sound_one : {B : Type 0} (tag : ℕ) (c : B → A) {f : ReadsPart B} {Q : B → Type 0} {t : B → Bytes} → IsExact f Q t → ((b : B) → Q b → P (c b)) → ((b : B) → spell (c b) ≡ tag ∷ t b) → SoundAt tag (one c f)
  sound_one tag c {f} {Q} {t} x fits spelled bs a rest h =
      let p = once c (f bs) a rest h in
      let u = x.sound bs p.first rest p.is in
      subst (λ y. Took P spell (tag ∷ bs) y rest) (sym p.made)
      (record { fits = fits p.first u.fits; parts = ap (λ y. tag ∷ y) u.parts ∙ ap (λ y. y ++ rest) (sym (spelled p.first)) })

  pub sound_two : {B C : Type 0} (tag : ℕ) (c : B → C → A) {f : ReadsPart B} {g : ReadsPart C} {Q : B → Type 0} {R : C → Type 0} {t : B → Bytes} {u : C → Bytes} → IsExact f Q t → IsExact g R u →
      ((b : B) (d : C) → Q b → R d → P (c b d)) → ((b : B) (d : C) → spell (c b d) ≡ tag ∷ (t b ++ u d)) → SoundAt tag (two_parts_read c f g)
  sound_two tag c {f} {g} {Q} {R} {t} {u} x y fits spelled bs a rest h =
      let p = twice (f bs) (λ b. one (c b) g) a rest h in
      let q = once (c p.first) (g p.mid) a rest p.later in
      let v = x.sound bs p.first p.mid p.is in
      let w = y.sound p.mid q.first rest q.is in
      subst (λ z. Took P spell (tag ∷ bs) z rest) (sym q.made)
      (record {
        fits = fits p.first q.first v.fits w.fits;
        parts = ap (λ z. tag ∷ z) (v.parts ∙ ap (λ z. t p.first ++ z) w.parts ∙ sym (append_assoc (t p.first) (u q.first) rest)) ∙ ap (λ z. z ++ rest) (sym (spelled p.first q.first));
      })

  pub sound_three : {B C D : Type 0} (tag : ℕ) (c : B → C → D → A) {f : ReadsPart B} {g : ReadsPart C} {i : ReadsPart D} {Q : B → Type 0} {R : C → Type 0} {S : D → Type 0} {t : B → Bytes} {u : C → Bytes} {v : D → Bytes} →
      IsExact f Q t → IsExact g R u → IsExact i S v →
      ((b : B) (d : C) (e : D) → Q b → R d → S e → P (c b d e)) → ((b : B) (d : C) (e : D) → spell (c b d e) ≡ tag ∷ ((t b ++ u d) ++ v e)) → SoundAt tag (three c f g i)
  sound_three tag c {f} {g} {i} {Q} {R} {S} {t} {u} {v} x y z fits spelled bs a rest h =
      let p = twice (f bs) (λ b. two_parts_read (c b) g i) a rest h in
      let q = twice (g p.mid) (λ d. one (c p.first d) i) a rest p.later in
      let r = once (c p.first q.first) (i q.mid) a rest q.later in
      let j = x.sound bs p.first p.mid p.is in
      let k = y.sound p.mid q.first q.mid q.is in
      let l = z.sound q.mid r.first rest r.is in
      let joined : p.mid ≡ u q.first ++ (v r.first ++ rest) = k.parts ∙ ap (λ w. u q.first ++ w) l.parts in
      subst (λ w. Took P spell (tag ∷ bs) w rest) (sym r.made)
      (record {
        fits = fits p.first q.first r.first j.fits k.fits l.fits;
        parts = ap (λ w. tag ∷ w) (j.parts ∙ ap (λ w. t p.first ++ w) joined ∙ sym (append_assoc (t p.first) (u q.first) (v r.first ++ rest)) ∙ sym (append_assoc (t p.first ++ u q.first) (v r.first) rest)) ∙ ap (λ w. w ++ rest) (sym (spelled p.first q.first r.first));
      })
