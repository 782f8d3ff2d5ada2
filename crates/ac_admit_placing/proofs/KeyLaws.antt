-- Two keys are equal exactly where the definitions and their links are.
use Rattle.std.proofs.Common.{◌≡◌, refl, sym, ap, ap₂, ◌∙◌, ℕ, suc, Bool, true, false, ◌&&◌, nat_eq, List, [], ◌∷◌, ◌++◌, Option, Some, None}
use Rattle.std.specs.Prelude.{position, option_map, slice_get}
use Rattle.std.specs.Option.{option_eq}
use mathlib.Core.Bool.{true≢false}
use Rattle.ac_types.proofs.FirstLaws.{some_eq}
use Rattle.ac_types.proofs.Same.{both_true, and_true, bytes_eq, bytes_refl}
use Rattle.ac_types.specs.Types.{Bytes, same_bytes}
use Rattle.ac_terms.specs.Spelling.{four_written}
use Rattle.ac_terms.specs.Defs.{Environment, Entry, Def}
use Rattle.ac_terms.proofs.Back.{read_four, back_four_bytes}
use Rattle.ac_terms.proofs.TestLaws.{eq_true, eq_self}
use Rattle.ac_rules.specs.Packets.{wide_bytes, same_def, find_def}
use Rattle.ac_index.proofs.PositionLaws.{position-first, position-later}
use Rattle.ac_admit_placing.specs.inner.Keys.{link_bytes, key_bytes, keyed, is_short}

-- two tests of which each follows from the other
alike : (a b : Bool) → (a ≡ true → b ≡ true) → (b ≡ true → a ≡ true) → a ≡ b
alike true b f g = sym (f refl)
alike false true f g = g refl
alike false false f g = refl

abbrev head_of : Bytes → ℕ
head_of [] = 0
head_of (b ∷ bs) = b

abbrev rest_of : Bytes → Bytes
rest_of [] = []
rest_of (b ∷ bs) = bs

-- a link's bytes say where they end
apart : (l m : Option ℕ) → is_short l ≡ true → is_short m ≡ true → (x y : Bytes) → link_bytes m ++ y ≡ link_bytes l ++ x → (option_eq nat_eq l m ≡ true) × (x ≡ y)
apart None None s t x y e = (refl, sym (ap rest_of e))
apart None (Some j) s t x y e = absurd (true≢false (ap (λ b. nat_eq b 1) (ap head_of e)))
apart (Some i) None s t x y e = absurd (true≢false (ap (λ b. nat_eq b 0) (ap head_of e)))
apart (Some i) (Some j) s t x y e =
    let here : four_written j ++ y ≡ four_written i ++ x = ap rest_of e in
    let read : Some (j, y) ≡ Some (i, x) = sym ((back_four_bytes j t).reads y) ∙ ap read_four here ∙ (back_four_bytes i s).reads x in
    let p = some_eq read in
    (ap (nat_eq i) (ap (λ q. q.0) p) ∙ eq_self i, sym (ap (λ q. q.1) p))

joint : (l m : Option ℕ) (x y : Bytes) → option_eq nat_eq l m ≡ true → x ≡ y → link_bytes m ++ y ≡ link_bytes l ++ x
joint None None x y h e = ap (λ z. 0 ∷ z) (sym e)
joint None (Some j) x y h e = absurd (true≢false (sym h))
joint (Some i) None x y h e = absurd (true≢false (sym h))
joint (Some i) (Some j) x y h e = ap₂ (λ (n : ℕ) z. 1 ∷ (four_written n ++ z)) (sym (eq_true i j h)) (sym e)

pub same_key : (d c : Def) (l m : Option ℕ) → is_short l ≡ true → is_short m ≡ true → same_bytes (key_bytes c m) (key_bytes d l) ≡ (same_def d c && option_eq nat_eq l m)
same_key d c l m s t =
    alike (same_bytes (key_bytes c m) (key_bytes d l)) (same_def d c && option_eq nat_eq l m)
    (λ h. let p = apart l m s t (wide_bytes d) (wide_bytes c) (bytes_eq (key_bytes c m) (key_bytes d l) h) in
    and_true {a = same_def d c} {b = option_eq nat_eq l m} (ap (same_bytes (wide_bytes d)) (sym p.1) ∙ bytes_refl (wide_bytes d)) p.0)
    (λ h. let q = both_true (same_def d c) (option_eq nat_eq l m) h in
    ap (λ z. same_bytes z (key_bytes d l)) (joint l m (wide_bytes d) (wide_bytes c) q.1 (bytes_eq (wide_bytes d) (wide_bytes c) q.0)) ∙ bytes_refl (key_bytes d l))

-- the first that passes one of two tests that agree on a list
position_alike : {A : Type 0} (p q : A → Bool) (xs : List A) → ((j : ℕ) (x : A) → slice_get xs j ≡ Some x → p x ≡ q x) → position p xs ≡ position q xs
position_alike p q [] h = refl
position_alike p q (x ∷ xs) h = by (position_alike p q xs (λ j y g. h (suc j) y g)) (q x) refl
  where
    by : position p xs ≡ position q xs → (b : Bool) → q x ≡ b → position p (x ∷ xs) ≡ position q (x ∷ xs)
    by ih true e = position-first p x xs (h 0 x refl ∙ e) ∙ sym (position-first q x xs e)
    by ih false e = position-later p x xs (h 0 x refl ∙ e) ∙ ap (option_map suc) ih ∙ sym (position-later q x xs e)

-- the least entry of a key is the least that equals the definition, in definition and in link
pub keyed_is : (E : Environment) → ((j : ℕ) (e : Entry) → slice_get E j ≡ Some e → is_short e.link ≡ true) → (d : Def) (l : Option ℕ) → is_short l ≡ true → keyed E (key_bytes d l) ≡ find_def E d l
keyed_is E short d l s =
    position_alike (λ (e : Entry). same_bytes (key_bytes e.def e.link) (key_bytes d l)) (λ (e : Entry). same_def d e.def && option_eq nat_eq l e.link) E
    (λ j e g. same_key d e.def l e.link s (short j e g))
