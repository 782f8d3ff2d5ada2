-- Line feeds, and the bytes behind the last one, counted from the front of a text.
use Rattle.std.proofs.Common.{◌≡◌, ◌≢◌, ◌≤◌, ◌<◌, ◌+◌, ℕ, suc, length, get_or, drop, List, [], ◌∷◌, sym, refl, ◌∙◌, ap, arith}
use Rattle.std.proofs.lemmas.Bool.{ne_eqb}
use Rattle.std.proofs.Math.Seq.{drop-cons}
use Rattle.std.proofs.Math.ListN.{drop_of_length-le}
use Rattle.ac_text.specs.Places.{feeds, since_feed}

feed : (rest : List ℕ) → feeds (10 ∷ rest) ≡ suc (feeds rest)
unfolding feeds
feed rest = refl

no_feed : (b : ℕ) (rest : List ℕ) → b ≢ 10 → feeds (b ∷ rest) ≡ feeds rest
unfolding feeds
no_feed b rest h = rw (ne_eqb b 10 h) refl

since_one : (n : ℕ) (rest : List ℕ) → since_feed n (10 ∷ rest) ≡ since_feed 0 rest
unfolding since_feed
since_one n rest = refl

since_no : (n b : ℕ) (rest : List ℕ) → b ≢ 10 → since_feed n (b ∷ rest) ≡ since_feed (suc n) rest
unfolding since_feed
since_no n b rest h = rw (ne_eqb b 10 h) refl

feeds_end : feeds [] ≡ 0
unfolding feeds
feeds_end = refl

since_end : (n : ℕ) → since_feed n [] ≡ n
unfolding since_feed
since_end n = refl

-- a pass over the bytes of a text
module _ (bytes : List ℕ) (i d : ℕ) where
  left : i < length bytes → drop i bytes ≡ get_or bytes i d ∷ drop (i + 1) bytes
  left h =
      let next : suc i ≡ i + 1 = omega arith in
      drop-cons bytes i d h ∙ ap (λ (j : ℕ). get_or bytes i d ∷ drop j bytes) next

  pub lines_feed : (n : ℕ) → i < length bytes → get_or bytes i d ≡ 10 → n + feeds (drop i bytes) ≡ feeds bytes → (n + 1) + feeds (drop (i + 1) bytes) ≡ feeds bytes
  lines_feed n h ten e =
      let at : feeds (drop i bytes) ≡ suc (feeds (drop (i + 1) bytes)) = ap feeds (left h) ∙ ap (λ (x : ℕ). feeds (x ∷ drop (i + 1) bytes)) ten ∙ feed _ in
      omega (arith, at, e)

  pub lines_no : (n : ℕ) → i < length bytes → get_or bytes i d ≢ 10 → n + feeds (drop i bytes) ≡ feeds bytes → n + feeds (drop (i + 1) bytes) ≡ feeds bytes
  lines_no n h other e =
      let at : feeds (drop i bytes) ≡ feeds (drop (i + 1) bytes) = ap feeds (left h) ∙ no_feed _ _ other in
      omega (arith, at, e)

  pub columns_feed : (n : ℕ) → i < length bytes → get_or bytes i d ≡ 10 → since_feed n (drop i bytes) ≡ since_feed 0 bytes → since_feed 0 (drop (i + 1) bytes) ≡ since_feed 0 bytes
  columns_feed n h ten e =
      sym (ap (since_feed n) (left h) ∙ ap (λ (x : ℕ). since_feed n (x ∷ drop (i + 1) bytes)) ten ∙ since_one n _) ∙ e

  pub columns_no : (n : ℕ) → i < length bytes → get_or bytes i d ≢ 10 → since_feed n (drop i bytes) ≡ since_feed 0 bytes → since_feed (n + 1) (drop (i + 1) bytes) ≡ since_feed 0 bytes
  columns_no n h other e =
      let next : suc n ≡ n + 1 = omega arith in
      ap (λ (m : ℕ). since_feed m (drop (i + 1) bytes)) (sym next) ∙ sym (ap (since_feed n) (left h) ∙ since_no n _ _ other) ∙ e

-- the end of a pass
module _ (bytes : List ℕ) (i : ℕ) (n : ℕ) (h : length bytes ≤ i) where
  pub lines_end : n + feeds (drop i bytes) ≡ feeds bytes → n + 1 ≡ suc (feeds bytes)
  lines_end e =
      let at : feeds (drop i bytes) ≡ 0 = ap feeds (drop_of_length-le bytes h) ∙ feeds_end in
      omega (arith, at, e)

  pub columns_end : since_feed n (drop i bytes) ≡ since_feed 0 bytes → n + 1 ≡ suc (since_feed 0 bytes)
  columns_end e =
      let at : since_feed n (drop i bytes) ≡ n = ap (since_feed n) (drop_of_length-le bytes h) ∙ since_end n in
      omega (arith, at, e)
