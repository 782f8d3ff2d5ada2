-- The frames within a limit are told by the bytes up to it and one more.
use Rattle.std.proofs.Common.{◌≡◌, refl, sym, ap, ◌∙◌, ℕ, zero, suc, ◌+◌, ◌-◌, ◌<◌, ◌≤◌, Bool, true, false, cond, nat_le, le-leb, [], ◌∷◌, ◌++◌, length, take, drop, arith, length-append}
use Rattle.std.specs.Int.{from_be_bytes, w32}
use Rattle.std.proofs.lemmas.Bool.{cond-true, leb-true, leb-false}
use Rattle.std.proofs.lemmas.List.{take-append-drop, take_all, take-append-le, drop-append-le, append-nil, length-take-le}
use Rattle.ac_types.specs.Types.{Bytes}
use Rattle.ac_types.specs.Limits.{longest_frame}
use Rattle.ac_outside.specs.Frames.{Frame, Whole, Bad, AtEnd, framed, next_frame}
use Rattle.ac_channels.specs.ChannelFrames.{ChannelFrames, BadFrame, in_front, frames_by, frames_from, most_frames, longest_channel, channel_frames}
use Rattle.ac_channels.proofs.ChannelLaws.{taken, at_end}

-- a whole frame behind a length, with more bytes behind it
framed_more : (n : ℕ) (r s rest b : Bytes) → framed n r ≡ Whole s rest → framed n (r ++ b) ≡ Whole s (rest ++ b)
framed_more n r s rest b e = go (nat_le n longest_frame) (nat_le n (length r)) refl refl e
  where
    go : (p q : Bool) → nat_le n longest_frame ≡ p → nat_le n (length r) ≡ q → cond p (cond q (Whole (take n r) (drop n r)) (Bad n (4 + length r))) (Bad n 4) ≡ Whole s rest
        → framed n (r ++ b) ≡ Whole s (rest ++ b)
    go false q x y h = absurd (cc)
    go true false x y h = absurd (cc)
    go true true x y h =
        let le : n ≤ length r = leb-true n (length r) y in
        let front : take n r ≡ s = cc in
        let behind : drop n r ≡ rest = cc in
        cond-true _ _ _ x ∙ cond-true _ _ _ (le-leb n (length (r ++ b)) (omega (arith, le, length-append r b)))
        ∙ ap (λ (x : Bytes). Whole x (drop n (r ++ b))) (take-append-le n r b le ∙ front) ∙ ap (Whole s) (drop-append-le n r b le ∙ ap (λ (x : Bytes). x ++ b) behind)

pub whole_more : (a s rest b : Bytes) → next_frame a ≡ Whole s rest → next_frame (a ++ b) ≡ Whole s (rest ++ b)
whole_more [] s rest b e = absurd (cc)
whole_more (w ∷ []) s rest b e = absurd (cc)
whole_more (w ∷ x ∷ []) s rest b e = absurd (cc)
whole_more (w ∷ x ∷ y ∷ []) s rest b e = absurd (cc)
whole_more (w ∷ x ∷ y ∷ z ∷ r) s rest b e = framed_more (from_be_bytes w32 (w ∷ x ∷ y ∷ z ∷ [])) r s rest b e

-- a frame of all bytes that lies in the first ones is one of these
framed_there : (n : ℕ) (r s rest b : Bytes) → framed n (r ++ b) ≡ Whole s rest → length s ≤ length r → (more : Bytes) × (framed n r ≡ Whole s more)
framed_there n r s rest b e le = go (nat_le n longest_frame) (nat_le n (length (r ++ b))) refl refl e
  where
    go : (p q : Bool) → nat_le n longest_frame ≡ p → nat_le n (length (r ++ b)) ≡ q → cond p (cond q (Whole (take n (r ++ b)) (drop n (r ++ b))) (Bad n (4 + length (r ++ b)))) (Bad n 4) ≡ Whole s rest
        → (more : Bytes) × (framed n r ≡ Whole s more)
    go false q x y h = absurd (cc)
    go true false x y h = absurd (cc)
    go true true x y h =
        let front : take n (r ++ b) ≡ s = cc in
        let all : n ≤ length (r ++ b) = leb-true n (length (r ++ b)) y in
        let same : n ≡ length s = sym (length-take-le n (r ++ b) all) ∙ ap length front in
        let within : n ≤ length r = omega (arith, same, le) in (
          drop n r,
          cond-true _ _ _ x ∙ cond-true _ _ _ (le-leb n (length r) within) ∙ ap (λ (x : Bytes). Whole x (drop n r)) (sym (take-append-le n r b within) ∙ front),
        )

whole_there : (a s rest b : Bytes) → next_frame (a ++ b) ≡ Whole s rest → 4 + length s ≤ length a → (more : Bytes) × (next_frame a ≡ Whole s more)
whole_there [] s rest b e le = absurd (omega (arith, le))
whole_there (w ∷ []) s rest b e le = absurd (omega (arith, le))
whole_there (w ∷ x ∷ []) s rest b e le = absurd (omega (arith, le))
whole_there (w ∷ x ∷ y ∷ []) s rest b e le = absurd (omega (arith, le))
whole_there (w ∷ x ∷ y ∷ z ∷ r) s rest b e le = framed_there (from_be_bytes w32 (w ∷ x ∷ y ∷ z ∷ [])) r s rest b e (omega (arith, le))

-- where bytes are left there is no end
not_at_end : (a b : Bytes) → 0 < length a → next_frame (a ++ b) ≡ AtEnd → ⊥
not_at_end a b some e = let none : length (a ++ b) ≡ 0 = ap length (at_end (a ++ b) e) in absurd (omega (arith, some, none, length-append a b))

abbrev step : ℕ → ℕ → ℕ → Bytes → Bytes → ChannelFrames
step more k room s rest = cond (nat_le (4 + length s) room) (in_front s (frames_from more (suc k) (room - (4 + length s)) rest)) (BadFrame k)

-- of bytes that are left, where no frame may come
full : (k room : ℕ) (a b : Bytes) → 0 < length a → frames_from zero k room (a ++ b) ≡ BadFrame k
full k room a b some = go (next_frame (a ++ b)) refl
  where
    go : (f : Frame) → next_frame (a ++ b) ≡ f → frames_by k (λ s rest. BadFrame k) f ≡ BadFrame k
    go (Whole s rest) e = refl
    go (Bad n g) e = refl
    go AtEnd e = absurd (not_at_end a b some e)

-- of bytes that are no frame, and of those with more behind
no_frame : (more k room : ℕ) (a b : Bytes) → room < length a → ((s rest : Bytes) → next_frame a ≡ Whole s rest → ⊥) → frames_from (suc more) k room (a ++ b) ≡ BadFrame k
no_frame more k room a b long none = go (next_frame (a ++ b)) refl
  where
    go : (f : Frame) → next_frame (a ++ b) ≡ f → frames_by k (step more k room) f ≡ BadFrame k
    go (Bad n g) e = refl
    go AtEnd e = absurd (not_at_end a b (omega (arith, long)) e)
    go (Whole s rest) e = by (nat_le (4 + length s) room) refl
      where
        by : (b : Bool) → nat_le (4 + length s) room ≡ b → cond b (in_front s (frames_from more (suc k) (room - (4 + length s)) rest)) (BadFrame k) ≡ BadFrame k
        by false q = refl
        by true q = let le : 4 + length s ≤ room = leb-true (4 + length s) room q in let t = whole_there a s rest b e (omega (arith, le, long)) in absurd (none s t.0 t.1)

pub front_same : (more k room : ℕ) (a b : Bytes) → room < length a → frames_from more k room a ≡ frames_from more k room (a ++ b)
front_same zero k room a b long =
    let some : 0 < length a = omega (arith, long) in
    sym (ap (frames_from zero k room) (append-nil a)) ∙ full k room a [] some ∙ sym (full k room a b some)
front_same (suc more) k room a b long = go (front_same more) (next_frame a) refl
  where
    go : ((k room : ℕ) (a b : Bytes) → room < length a → frames_from more k room a ≡ frames_from more k room (a ++ b)) → (f : Frame) → next_frame a ≡ f → frames_by k (step more k room) (next_frame a) ≡ frames_by k (step more k room) (next_frame (a ++ b))
    go next (Whole s rest) e =
        ap (frames_by k (step more k room)) e ∙ by (nat_le (4 + length s) room) refl ∙ sym (ap (frames_by k (step more k room)) (whole_more a s rest b e))
      where
        by : (t : Bool) → nat_le (4 + length s) room ≡ t → cond t (in_front s (frames_from more (suc k) (room - (4 + length s)) rest)) (BadFrame k) ≡ cond t (in_front s (frames_from more (suc k) (room - (4 + length s)) (rest ++ b))) (BadFrame k)
        by false q = refl
        by true q =
            let le : 4 + length s ≤ room = leb-true (4 + length s) room q in
            let n : length a ≡ 4 + length s + length rest = taken a s rest e in
            ap (in_front s) (next (suc k) (room - (4 + length s)) rest b (omega (arith, le, n, long)))
    go next (Bad n g) e = ap (frames_by k (step more k room)) e ∙ sym (no_frame more k room a b long (λ s rest q. not_both s rest (sym e ∙ q)))
      where
        not_both : (s rest : Bytes) → Bad n g ≡ Whole s rest → ⊥
        not_both s rest q = cc
    go next AtEnd e = let none : length a ≡ 0 = ap length (at_end a e) in absurd (omega (arith, long, none))

-- the front of a channel tells its frames
pub front_tells : (bs : Bytes) → channel_frames (take (longest_channel + 1) bs) ≡ channel_frames bs
front_tells bs = go (nat_le (length bs) (longest_channel + 1)) refl
  where
    go : (t : Bool) → nat_le (length bs) (longest_channel + 1) ≡ t → channel_frames (take (longest_channel + 1) bs) ≡ channel_frames bs
    go true q = ap channel_frames (take_all (longest_channel + 1) bs (leb-true (length bs) (longest_channel + 1) q))
    go false q =
        let long : longest_channel + 1 < length bs = leb-false (length bs) (longest_channel + 1) q in
        let n : length (take (longest_channel + 1) bs) ≡ longest_channel + 1 = length-take-le (longest_channel + 1) bs (omega (arith, long)) in
        front_same most_frames 1 longest_channel (take (longest_channel + 1) bs) (drop (longest_channel + 1) bs) (omega (arith, n)) ∙ ap channel_frames (take-append-drop (longest_channel + 1) bs)
