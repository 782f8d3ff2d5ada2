-- Keys of a name and a word.
use borrow.Rule.Slice.PartMut.{put_mid}
use Rattle.std.proofs.Common.{◌≡◌, refl, ap, ap₂, ◌∙◌, ℕ, suc, ◌+◌, Bool, true, false, ◌&&◌, List, [], ◌∷◌, ◌++◌, length, take, length-append, nat_eq, arith}
use Rattle.std.proofs.lemmas.List.{take_at}
use Rattle.std.proofs.lemmas.Slice.{take-put_mid}
use Rattle.std.proofs.Math.Nat.{suc_inj}
use Rattle.ac_types.specs.Types.{Bytes, same_bytes}

-- two keys with names of one length are the same where both parts are
pub same_parts : (m n t u : Bytes) → length m ≡ length n → same_bytes (m ++ t) (n ++ u) ≡ (same_bytes m n && same_bytes t u)
same_parts [] [] t u h = refl
same_parts (x ∷ m) (y ∷ n) t u h = ap (λ b. nat_eq x y && b) (same_parts m n t u (suc_inj h)) ∙ assoc (nat_eq x y) (same_bytes m n) (same_bytes t u)
  where
    assoc : (a b c : Bool) → (a && (b && c)) ≡ ((a && b) && c)
    assoc true b c = refl
    assoc false b c = refl
same_parts [] (y ∷ n) t u h = absurd (omega (arith, h))
same_parts (x ∷ m) [] t u h = absurd (omega (arith, h))

-- what is written at the front of an array, and behind it
pub written : (a : ℕ) (name word front behind rest : Bytes) (n k : ℕ) → front ≡ name → behind ≡ word → length name ≡ a → n ≡ a + length behind → take n (put_mid a k (front ++ rest) behind) ≡ name ++ word
written a name word front behind rest n k f b l e =
    let m : length front ≡ a = ap length f ∙ l in
    take-put_mid a k (front ++ rest) behind n e (omega (arith, length-append front rest, m))
    ∙ ap₂ (λ (x y : Bytes). x ++ y) (take_at front rest a m ∙ f) b
