-- The places of entries among chosen ones.
use Rattle.std.proofs.Common.{◌≡◌, refl, sym, ap, ◌∙◌, ℕ, suc, ◌+◌, ◌<◌, ◌≤◌, Bool, true, false, arith, List, [], ◌∷◌, ◌++◌, length, take, drop, get_or, Option, Some, None, get_or-set_same, get_or-set_other}
use Rattle.std.specs.Prelude.{◌≢◌, nat_eq, nat_lt, option_map, position, replicate, slice_set, unwrap_or}
use Rattle.std.proofs.Math.ListN.{length-set}
use Rattle.std.proofs.Math.Path.{fun_ext}
use Rattle.std.proofs.Math.Seq.{take-length}
use Rattle.std.proofs.lemmas.Bool.Decides.{nat_tests}
use Rattle.std.proofs.lemmas.List.{length-replicate, get_or-replicate, take-append-le}
use Rattle.std.proofs.lemmas.Option.{unwrap_or-slice_get, slice_get_past}
use mathlib.Core.Bool.{true≢false}
use Rattle.ac_terms.proofs.TestLaws.{eq_true, eq_self}
use Rattle.ac_rules.specs.Needed.{place_in}
use Rattle.ac_index.proofs.PositionLaws.{position-first, position-later}
use Rattle.ac_terms_renumber.specs.Numbers.{number_for}
use Rattle.ac_pack_definitions.specs.Forms.{AllBelow}
use Rattle.ac_pack_definitions.specs.inner.Passing.{numbered}

below_is : (k n : ℕ) → nat_lt k n ≡ true → k < n
below_is k n h = grind (arith, nat_tests)

past_is : (k n : ℕ) → nat_lt k n ≡ false → n ≤ k
past_is k n h = grind (arith, nat_tests)

abbrev pub zeros : ℕ → List ℕ
zeros n = replicate n 0

-- a list of zeros has no other number
blank : (n k : ℕ) → get_or (zeros n) k 0 ≡ 0
blank n k = by (nat_lt k n) refl
  where
    by : (b : Bool) → nat_lt k n ≡ b → get_or (zeros n) k 0 ≡ 0
    by true h = get_or-replicate {A = ℕ} n k 0 0 (below_is k n h)
    by false h =
        let past = past_is k n h in
        sym (unwrap_or-slice_get (zeros n) k 0) ∙ ap (λ o. unwrap_or o 0) (slice_get_past (zeros n) k (omega (arith, past, length-replicate {A = ℕ} n 0)))

length_numbered : (ns : List ℕ) (i : ℕ) (ks : List ℕ) → length (numbered ns i ks) ≡ length ns
length_numbered ns i [] = refl
length_numbered ns i (k ∷ ks) = length-set (numbered ns (suc i) ks) k i ∙ length_numbered ns (suc i) ks

-- the place, counted from i
abbrev placed : ℕ → Option ℕ → ℕ
placed i o = unwrap_or (option_map (λ j. j + i) o) 0

later : (i : ℕ) (o : Option ℕ) → placed (suc i) o ≡ placed i (option_map suc o)
later i None = refl
later i (Some j) = omega arith

from_none : (o : Option ℕ) → placed 0 o ≡ unwrap_or o 0
from_none None = refl
from_none (Some j) = omega arith

at_place : (n i k : ℕ) (ks : List ℕ) → AllBelow n ks → get_or (numbered (zeros n) i ks) k 0 ≡ placed i (position (nat_eq k) ks)
at_place n i k [] h = blank n k
at_place n i k (x ∷ ks) h = by (at_place n (suc i) k ks h.1) (nat_eq k x) refl
  where
    behind : List ℕ
    behind = numbered (zeros n) (suc i) ks

    there : x < length (numbered (zeros n) (suc i) ks)
    there = let lt = h.0 in omega (arith, lt, length_numbered (zeros n) (suc i) ks, length-replicate {A = ℕ} n 0)

    first : i ≡ 0 + i
    first = omega arith

    by : get_or (numbered (zeros n) (suc i) ks) k 0 ≡ placed (suc i) (position (nat_eq k) ks) → (b : Bool) → nat_eq k x ≡ b → get_or (slice_set (numbered (zeros n) (suc i) ks) x i) k 0 ≡ placed i (position (nat_eq k) (x ∷ ks))
    by rest true e =
        ap (λ m. get_or (slice_set (numbered (zeros n) (suc i) ks) x i) m 0) (eq_true k x e)
        ∙ get_or-set_same (numbered (zeros n) (suc i) ks) x i 0 there
        ∙ first
        ∙ sym (ap (placed i) (position-first (nat_eq k) x ks e))
    by rest false e =
        let apart : k ≢ x = λ p. true≢false (sym (eq_self x) ∙ ap (λ m. nat_eq m x) (sym p) ∙ e) in
        get_or-set_other (numbered (zeros n) (suc i) ks) x k i 0 apart ∙ rest ∙ later i (position (nat_eq k) ks) ∙ sym (ap (placed i) (position-later (nat_eq k) x ks e))

-- what was put over zeros are the places
pub places_are : (n : ℕ) (ks : List ℕ) → AllBelow n ks → number_for (numbered (zeros n) 0 ks) ≡ place_in ks
places_are n ks h = fun_ext (λ k. unwrap_or-slice_get (numbered (zeros n) 0 ks) k 0 ∙ at_place n 0 k ks h ∙ from_none (position (nat_eq k) ks))

-- the same of a list that was written through a slice of it
pub places_back : (n len : ℕ) (items new ks : List ℕ) → len ≡ n → items ≡ zeros n → new ≡ numbered items 0 ks → AllBelow n ks → number_for (take len (new ++ drop (length new) items)) ≡ place_in ks
places_back n len items new ks l blanks made below =
    let as_long : length new ≡ length items = ap length made ∙ length_numbered items 0 ks in
    let longs : length items ≡ n = ap length blanks ∙ length-replicate {A = ℕ} n 0 in
    let within : len ≤ length new = omega (arith, l, as_long, longs) in
    let all : len ≡ length new = omega (arith, l, as_long, longs) in
    let same : take len (new ++ drop (length new) items) ≡ new = rw take-append-le (ap (λ m. take m new) all ∙ take-length new) in
    ap number_for (same ∙ made ∙ ap (λ ns. numbered ns 0 ks) blanks) ∙ places_are n ks below
