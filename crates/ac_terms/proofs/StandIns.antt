-- Types that stand for the types of a table, one for each number: a packet is spelled with the table as another is with the stand-ins, whose types are no larger than a number.
use Rattle.std.proofs.Common.{◌≡◌, refl, sym, ap, ◌∙◌, ℕ, zero, suc, ◌+◌, ◌<◌, ◌≤◌, ◌^◌, Bool, true, false, List, [], ◌∷◌, length, map}
use Rattle.std.specs.Prelude.{codes}
use Rattle.std.specs.Int.{w32, from_be_bytes}
use Rattle.std.proofs.lemmas.Nat.{from_be_bytes-to_be_bytes_4}
use native.Mathlib.Omega.{arith}
use Rattle.ac_types.proofs.Same.{same_eq, same_refl}
use Rattle.ac_types.specs.Words.{is_reserved}
use Rattle.ac_types.specs.Types.{Bytes, Typ, TAbs, same}
use Rattle.ac_terms.specs.Defs.{Packet}
use Rattle.ac_terms.specs.Spelling.{four_written}
use Rattle.ac_terms.specs.SpelledBy.{body_bytes}
use Rattle.ac_terms.specs.Bounds.{fits_type, fits_packet}
use Rattle.ac_terms.specs.Tables.{type_places, number_in, numbered}
use Rattle.ac_terms.proofs.Retyped.{packet_retyped, body_spelled, packet_placed}
use Rattle.ac_terms.proofs.RetypedBounds.{packet_fits}

-- an abstract type whose name is a number
abbrev pub name_for : ℕ → Bytes
name_for n = 0 ∷ 0 ∷ 0 ∷ 0 ∷ 0 ∷ 0 ∷ 0 ∷ 0 ∷ 0 ∷ 0 ∷ 0 ∷ 0 ∷ 0 ∷ 0 ∷ 0 ∷ 0 ∷ 0 ∷ 0 ∷ 0 ∷ 0 ∷ 0 ∷ 0 ∷ 0 ∷ 0 ∷ 0 ∷ 0 ∷ 0 ∷ 0 ∷ four_written n

abbrev pub stand_in : ℕ → Typ
stand_in n = TAbs (name_for n) (codes "t")

abbrev pub stands_from : ℕ → ℕ → List Typ
stands_from i zero = []
stands_from i (suc k) = stand_in i ∷ stands_from (suc i) k

stand_fits : (own : Bool) (n : ℕ) → fits_type own (stand_in n) ≡ true
unfolding is_reserved
stand_fits own n = refl

-- different numbers have different stand-ins
abbrev number_of : Typ → ℕ
number_of (TAbs (a ∷ b ∷ c ∷ d ∷ e ∷ f ∷ g ∷ h ∷ i ∷ j ∷ k ∷ l ∷ m ∷ n ∷ o ∷ p ∷ q ∷ r ∷ s ∷ t ∷ u ∷ v ∷ w ∷ x ∷ y ∷ z ∷ a' ∷ b' ∷ bs) word) = from_be_bytes w32 bs
number_of T = 0

one_number : (n m : ℕ) → n < 2 ^ 32 → m < 2 ^ 32 → stand_in n ≡ stand_in m → n ≡ m
one_number n m h k e = sym (from_be_bytes-to_be_bytes_4 n h) ∙ ap number_of e ∙ from_be_bytes-to_be_bytes_4 m k

not_same : (n m : ℕ) → n < 2 ^ 32 → m < 2 ^ 32 → (n ≡ m → ⊥) → same (stand_in n) (stand_in m) ≡ false
not_same n m h k d = by (same (stand_in n) (stand_in m)) refl
  where
    by : (b : Bool) → same (stand_in n) (stand_in m) ≡ b → b ≡ false
    by false e = refl
    by true e = absurd (d (one_number n m h k (same_eq (stand_in n) (stand_in m) e)))

stand_number : (k i n : ℕ) → i + k < 2 ^ 32 → n ≤ k → number_in (stands_from i k) (stand_in (i + n)) ≡ n
stand_number zero i n low h = omega (arith, h)
stand_number (suc k) i zero low h =
    let here : i + 0 ≡ i = omega arith in
    ap (λ b. elim b as (λ z. ℕ) [ true ↦ 0 | false ↦ suc (number_in (stands_from (suc i) k) (stand_in (i + 0))) ]) (ap (λ x. same (stand_in x) (stand_in i)) here ∙ same_refl (stand_in i))
stand_number (suc k) i (suc n) low h =
    let on : i + suc n ≡ suc i + n = omega arith in
    let other : same (stand_in (i + suc n)) (stand_in i) ≡ false = not_same (i + suc n) i (omega (arith, low, h)) (omega (arith, low)) (λ e. omega (arith, e)) in
    ap (λ b. elim b as (λ z. ℕ) [ true ↦ 0 | false ↦ suc (number_in (stands_from (suc i) k) (stand_in (i + suc n))) ]) other ∙
    ap (λ x. suc (number_in (stands_from (suc i) k) (stand_in x))) on ∙ ap suc (stand_number k (suc i) n (omega (arith, low)) (omega (arith, h)))

number_upto : (Ts : List Typ) (T : Typ) → number_in Ts T ≤ length Ts
number_upto [] T = omega arith
number_upto (U ∷ Us) T = by (number_upto Us T) (same T U)
  where
    by : number_in Us T ≤ length Us → (b : Bool) → elim b as (λ z. ℕ) [ true ↦ 0 | false ↦ suc (number_in Us T) ] ≤ suc (length Us)
    by f true = omega arith
    by f false = omega (arith, f)

module _ (table : List Typ) (few : length table < 2 ^ 32) where
  abbrev pub stands : List Typ
  stands = stands_from 0 (length table)

  -- what stands for a type
  abbrev pub in_place : Typ → Typ
  in_place T = stand_in (number_in table T)

  alike : (T : Typ) → numbered stands (in_place T) ≡ numbered table T
  alike T =
      let n : ℕ = number_in table T in
      let from : 0 + n ≡ n = omega arith in
      ap four_written (ap (λ x. number_in stands (stand_in x)) (sym from) ∙ stand_number (length table) 0 n (omega (arith, few)) (number_upto table T))

  -- the same bytes, the same numbers, within the bounds
  pub stands_spelled : (p : Packet) → body_bytes (numbered stands) (packet_retyped in_place p) ≡ body_bytes (numbered table) p
  stands_spelled p = body_spelled in_place (numbered stands) p ∙ ap (λ f. body_bytes f p) (λ i T. alike T i)

  pub stands_places : (p : Packet) → type_places (packet_retyped in_place p) ≡ map in_place (type_places p)
  stands_places p = packet_placed in_place p

  pub stands_fit : (p : Packet) → fits_packet p ≡ true → fits_packet (packet_retyped in_place p) ≡ true
  stands_fit p w = packet_fits in_place (λ T. stand_fits false (number_in table T)) (λ T. stand_fits true (number_in table T)) (λ T. refl) p w
