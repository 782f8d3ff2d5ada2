-- What an input begins with: a frame, or bytes that are none.
use Rattle.std.proofs.Common.{◌≡◌, ℕ, zero, suc, ◌+◌, ◌<◌, ◌≤◌, ◌^◌, Bool, true, false, cond, nat_le, [], ◌∷◌, ◌++◌, length, take, drop, get_or, slice_index, refl, sym, ap, ap₂, ◌∙◌, arith, length-append, append_assoc, le-leb}
use Rattle.std.specs.Int.{from_be_bytes, to_be_bytes, w32}
use Rattle.std.proofs.lemmas.Bool.{cond-true, cond-false, lt-leb, leb-true}
use Rattle.std.proofs.lemmas.List.{take_at, drop_at, take-append-drop, length-take-le}
use Rattle.std.proofs.lemmas.Nat.{from_be_bytes-to_be_bytes_4, be_bytes_4}
use Rattle.ac_types.specs.Types.{Bytes}
use Rattle.ac_types.specs.Limits.{longest_frame}
use Rattle.ac_outside.specs.Frames.{Frame, Whole, Bad, frame_of, framed, next_frame}

-- a length of four bytes
four_in : (h r : Bytes) → length h ≡ 4 → next_frame (h ++ r) ≡ framed (from_be_bytes w32 h) r
four_in [] r e = absurd (omega arith)
four_in (a ∷ []) r e = absurd (omega arith)
four_in (a ∷ b ∷ []) r e = absurd (omega arith)
four_in (a ∷ b ∷ c ∷ []) r e = absurd (omega arith)
four_in (a ∷ b ∷ c ∷ d ∷ []) r e = refl
four_in (a ∷ b ∷ c ∷ d ∷ x ∷ h) r e = absurd (omega arith)

pub behind : (h r : Bytes) (n : ℕ) → length h ≡ 4 → n ≡ from_be_bytes w32 h → next_frame (h ++ r) ≡ framed n r
behind h r n e is = four_in h r e ∙ ap (λ m. framed m r) (sym is)

-- one that isn't whole
pub few : (h : Bytes) → 0 < length h → length h < 4 → next_frame h ≡ Bad 0 (length h)
few [] some e = absurd (omega arith)
few (a ∷ []) some e = refl
few (a ∷ b ∷ []) some e = refl
few (a ∷ b ∷ c ∷ []) some e = refl
few (a ∷ b ∷ c ∷ d ∷ h) some e = absurd (omega arith)

-- one that is too large
pub too_long : (n : ℕ) (r : Bytes) → longest_frame < n → framed n r ≡ Bad n 4
too_long n r e = cond-false _ _ _ (lt-leb n longest_frame e)

-- the bytes are there
pub whole : (n : ℕ) (s rest : Bytes) → n ≤ longest_frame → length s ≡ n → framed n (s ++ rest) ≡ Whole s rest
whole n s rest le e =
    let all : length (s ++ rest) ≡ length s + length rest = length-append s rest in
    let enough : n ≤ length (s ++ rest) = omega (arith, all, e) in
    cond-true _ _ _ (le-leb n longest_frame le) ∙ cond-true _ _ _ (le-leb n (length (s ++ rest)) enough)
    ∙ ap₂ Whole (take_at s rest n e) (drop_at s rest n e)

-- they end early
pub early : (n : ℕ) (s : Bytes) → n ≤ longest_frame → length s < n → framed n s ≡ Bad n (4 + length s)
early n s le e = cond-true _ _ _ (le-leb n longest_frame le) ∙ cond-false _ _ _ (lt-leb n (length s) e)

pub frame_back : (s rest : Bytes) → length s ≤ longest_frame → next_frame (frame_of s ++ rest) ≡ Whole s rest
frame_back s rest le =
    let small : length s < 2 ^ 32 = omega (arith, le) in
    ap (λ n. framed n (s ++ rest)) (from_be_bytes-to_be_bytes_4 (length s) small) ∙ whole (length s) s rest le refl

-- a test that leads to a whole frame holds
chosen : (b : Bool) (f : Frame) (n k : ℕ) (s rest : Bytes) → cond b f (Bad n k) ≡ Whole s rest → (b ≡ true) × (f ≡ Whole s rest)
chosen true f n k s rest e = (refl, e)
chosen false f n k s rest e = cc

-- what stands behind a length
parts : (a b s rest : Bytes) → Whole a b ≡ Whole s rest → (a ≡ s) × (b ≡ rest)
parts a b s rest e = (cc, cc)

split : (n : ℕ) (r s rest : Bytes) → framed n r ≡ Whole s rest → (length s ≡ n) × (n ≤ longest_frame) × (r ≡ s ++ rest)
split n r s rest e =
    let small = chosen (nat_le n longest_frame) _ n 4 s rest e in
    let enough = chosen (nat_le n (length r)) _ n (4 + length r) s rest small.1 in
    let is = parts (take n r) (drop n r) s rest enough.1 in (
      ap length (sym is.0) ∙ length-take-le n r (leb-true n (length r) enough.0),
      leb-true n longest_frame small.0,
      sym (take-append-drop n r) ∙ ap₂ (λ (a b : Bytes). a ++ b) is.0 is.1,
    )

four_bytes : (a b c d : ℕ) (r : Bytes) → ((i : ℕ) → slice_index (a ∷ b ∷ c ∷ d ∷ r) i < 256) → (i : ℕ) → get_or (a ∷ b ∷ c ∷ d ∷ []) i 0 < 256
four_bytes a b c d r h zero = h 0
four_bytes a b c d r h (suc zero) = h 1
four_bytes a b c d r h (suc (suc zero)) = h 2
four_bytes a b c d r h (suc (suc (suc zero))) = h 3
four_bytes a b c d r h (suc (suc (suc (suc i)))) = omega arith

-- the frame that comes next is what the input begins with
pub is_frame : (bs s rest : Bytes) → next_frame bs ≡ Whole s rest → (((i : ℕ) → slice_index bs i < 256) → bs ≡ frame_of s ++ rest) × (length s ≤ longest_frame)
is_frame [] s rest e = cc
is_frame (a ∷ []) s rest e = cc
is_frame (a ∷ b ∷ []) s rest e = cc
is_frame (a ∷ b ∷ c ∷ []) s rest e = cc
is_frame (a ∷ b ∷ c ∷ d ∷ r) s rest e =
    let head : Bytes = a ∷ b ∷ c ∷ d ∷ [] in
    let is = split (from_be_bytes w32 head) r s rest e in (
      λ h.
          let four : to_be_bytes w32 (length s) ≡ head = be_bytes_4 head (length s) refl (four_bytes a b c d r h) is.0 in
          ap (λ (x : Bytes). head ++ x) is.2 ∙ ap (λ (x : Bytes). x ++ s ++ rest) (sym four) ∙ sym (append_assoc (to_be_bytes w32 (length s)) s rest),
      rw is.0 is.1,
    )
