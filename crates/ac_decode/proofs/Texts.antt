-- An exception's number, a primitive's number and a home are read exactly, and what an exception's number says of what follows.
use Rattle.std.proofs.Common.{◌≡◌, refl, ap, sym, subst, ◌∙◌, add-one, ℕ, zero, suc, ◌+◌, Bool, true, false, [], ◌∷◌, ◌++◌, Some}
use mathlib.Core.Bool.{true≢false}
use Rattle.ac_types.proofs.FirstLaws.{some_eq}
use Rattle.ac_types.specs.Types.{Bytes}
use Rattle.ac_terms.specs.Terms.{Home, Main, In}
use Rattle.ac_types.specs.Exceptions.{has_text}
use Rattle.ac_terms.specs.Spelling.{byte, two_written, home_bytes}
use Rattle.ac_terms.specs.Bounds.{is_two, fits_home}
use Rattle.ac_terms.specs.PacketReading.{ReadsPart, one, read_with_text, home_number}
use Rattle.ac_terms.proofs.Back.{Back, back_give, back_one, back_after}
use Rattle.ac_decode_pieces.specs.ExactReading.{exact_two}
use Rattle.ac_decode_pieces.proofs.Exact.{Took, IsExact, once, twice, exact_passing, exact_as}
use Rattle.ac_decode_pieces.proofs.Tables.{SoundAt}
use Rattle.ac_decode_pieces.proofs.Pieces.{Is, byte_is_exact, two_is_exact}
use Rattle.ac_decode.specs.inner.ExactTerms.{is_exn, exact_exn, names_primitive, exact_primitive, exact_home, exact_with_text}

pub exn_is_exact : IsExact exact_exn (Is is_exn) byte
unfolding exact_exn
exn_is_exact = exact_as (Is is_exn) (λ n p. p.1) (λ n e. (tt, e)) (exact_passing is_exn byte_is_exact)

pub primitive_is_exact : IsExact exact_primitive (Is names_primitive) byte
unfolding exact_primitive
primitive_is_exact = exact_as (Is names_primitive) (λ n p. p.1) (λ n e. (tt, e)) (exact_passing names_primitive byte_is_exact)

home_read : (k : ℕ) → is_two k ≡ true → fits_home (home_number k) ≡ true
home_read zero e = refl
home_read (suc k) e = ap is_two (add-one k) ∙ e

home_spelled : (k : ℕ) → home_bytes (home_number k) ≡ two_written k
home_spelled zero = refl
home_spelled (suc k) = ap two_written (add-one k)

pub home_is_exact : IsExact exact_home (Is fits_home) home_bytes
unfolding exact_home
home_is_exact = record { sound = sounds; back = again }
  where
    sounds : (bs : Bytes) (h : Home) (rest : Bytes) → one home_number exact_two bs ≡ Some (h, rest) → Took (Is fits_home) home_bytes bs h rest
    sounds bs h rest e =
        let p = once home_number (exact_two bs) h rest e in
        let t = two_is_exact.sound bs p.first rest p.is in
        subst (λ x. Took (Is fits_home) home_bytes bs x rest) (sym p.made)
        (record { fits = home_read p.first t.fits; parts = t.parts ∙ ap (λ x. x ++ rest) (sym (home_spelled p.first)) })

    again : (h : Home) → fits_home h ≡ true → Back (one home_number exact_two) (home_bytes h) h
    again Main e = back_one home_number (two_is_exact.back 0 refl)
    again (In k) e = subst (λ h. Back (one home_number exact_two) (two_written (k + 1)) h) (ap home_number (add-one k)) (back_one home_number (two_is_exact.back (k + 1) e))

-- where a number has a text, it is followed by it
module _ {A B : Type 0} (P : A → Type 0) (spell : A → Bytes) (tag : ℕ) (bare : ℕ → A) (of : ℕ → B → A) {f : ReadsPart B} {Q : B → Type 0} {t : B → Bytes} (x : IsExact f Q t)
    (bare_fits : (k : ℕ) → is_exn k ≡ true → has_text k ≡ false → P (bare k)) (of_fits : (k : ℕ) (b : B) → has_text k ≡ true → Q b → P (of k b))
    (bare_spelled : (k : ℕ) → spell (bare k) ≡ tag ∷ k ∷ []) (of_spelled : (k : ℕ) (b : B) → spell (of k b) ≡ tag ∷ k ∷ t b) where
  follows : (k : ℕ) (bs mid : Bytes) (a : A) (rest : Bytes) (b : Bool) → has_text k ≡ b → is_exn k ≡ true → bs ≡ k ∷ mid → read_with_text b (bare k) (one (of k) f) mid ≡ Some (a, rest) → Took P spell (tag ∷ bs) a rest
  follows k bs mid a rest true h e front r =
      let p = once (of k) (f mid) a rest r in
      let u = x.sound mid p.first rest p.is in
      subst (λ y. Took P spell (tag ∷ bs) y rest) (sym p.made)
      (record { fits = of_fits k p.first h u.fits; parts = ap (λ y. tag ∷ y) (front ∙ ap (λ y. k ∷ y) u.parts) ∙ ap (λ y. y ++ rest) (sym (of_spelled k p.first)) })
  follows k bs mid a rest false h e front r =
      let q = some_eq r in
      let is : bare k ≡ a = ap (λ (y : A × Bytes). y.0) q in
      let at : mid ≡ rest = ap (λ (y : A × Bytes). y.1) q in
      subst (λ y. Took P spell (tag ∷ bs) y rest) is
      (record { fits = bare_fits k e h; parts = ap (λ y. tag ∷ y) (front ∙ ap (λ y. k ∷ y) at) ∙ ap (λ y. y ++ rest) (sym (bare_spelled k)) })

  pub sound_text : SoundAt P spell tag (exact_with_text bare of f)
  sound_text bs a rest r =
      let p = twice (exact_exn bs) (λ k. read_with_text (has_text k) (bare k) (one (of k) f)) a rest r in
      let u = exn_is_exact.sound bs p.first p.mid p.is in
      follows p.first bs p.mid a rest (has_text p.first) refl u.fits u.parts p.later

-- and is read back so
module _ {A B : Type 0} (bare : ℕ → A) (of : ℕ → B → A) (f : ReadsPart B) where
  with_it : (b : Bool) (k : ℕ) {bs : Bytes} {d : B} → b ≡ true → Back f bs d → Back (read_with_text b (bare k) (one (of k) f)) bs (of k d)
  with_it true k e p = back_one (of k) p
  with_it false k e p = absurd (true≢false (sym e))

  without_it : (b : Bool) (k : ℕ) → b ≡ false → Back (read_with_text b (bare k) (one (of k) f)) [] (bare k)
  without_it true k e = absurd (true≢false e)
  without_it false k e = back_give (bare k)

  pub back_with_text : (k : ℕ) {bs : Bytes} {d : B} → is_exn k ≡ true → has_text k ≡ true → Back f bs d → Back (exact_with_text bare of f) (k ∷ bs) (of k d)
  back_with_text k {bs} {d} e h p = record { reads = (back_after (λ n. read_with_text (has_text n) (bare n) (one (of n) f)) (exn_is_exact.back k e) (with_it (has_text k) k h p)).reads }

  pub back_without_text : (k : ℕ) → is_exn k ≡ true → has_text k ≡ false → Back (exact_with_text bare of f) (k ∷ []) (bare k)
  back_without_text k e h = record { reads = (back_after (λ n. read_with_text (has_text n) (bare n) (one (of n) f)) (exn_is_exact.back k e) (without_it (has_text k) k h)).reads }
