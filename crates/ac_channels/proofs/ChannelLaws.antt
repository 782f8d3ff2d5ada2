-- A channel is whole, or refused at one frame: the least that is none, ends past the limit, or is one too many.
use Rattle.std.proofs.Common.{◌≡◌, refl, sym, ap, ap₂, ◌∙◌, subst, ℕ, zero, suc, ◌+◌, ◌-◌, ◌<◌, ◌≤◌, Bool, true, false, cond, nat_le, List, [], ◌∷◌, length, take, drop, arith, length-append, le-leb}
use Rattle.std.specs.Int.{from_be_bytes, w32}
use Rattle.std.proofs.lemmas.Bool.{cond-true, cond-false, lt-leb, leb-true, leb-false}
use Rattle.std.proofs.lemmas.List.{take-append-drop}
use Rattle.ac_types.specs.Types.{Bytes}
use Rattle.ac_types.specs.Limits.{longest_frame}
use Rattle.ac_outside.specs.Frames.{Frame, Whole, Bad, AtEnd, framed, next_frame}
use Rattle.ac_channels.specs.ChannelFrames.{ChannelFrames, AllFrames, BadFrame, in_front, frames_by, frames_from, most_frames, longest_channel, channel_frames}
use Rattle.ac_channels.specs.WholeChannels.{Framed, no_more, a_frame, IsWithin, NoFrame, bad, past, too_many, StopsBehind, IsWholeChannel, IsBadAt}

-- what stands behind a length, where that is a whole frame
chosen : (b : Bool) (f : Frame) (n k : ℕ) (s rest : Bytes) → cond b f (Bad n k) ≡ Whole s rest → (b ≡ true) × (f ≡ Whole s rest)
chosen true f n k s rest e = (refl, e)
chosen false f n k s rest e = cc

parts : (a b s rest : Bytes) → Whole a b ≡ Whole s rest → (a ≡ s) × (b ≡ rest)
parts a b s rest e = (cc, cc)

behind_length : (n : ℕ) (r s rest : Bytes) → framed n r ≡ Whole s rest → length r ≡ length s + length rest
behind_length n r s rest e =
    let small = chosen (nat_le n longest_frame) _ n 4 s rest e in
    let enough = chosen (nat_le n (length r)) _ n (4 + length r) s rest small.1 in
    let is = parts (take n r) (drop n r) s rest enough.1 in
    ap length (sym (take-append-drop n r)) ∙ length-append (take n r) (drop n r) ∙ ap₂ (λ (a b : Bytes). length a + length b) is.0 is.1

-- a whole frame takes four bytes and those of its string
pub taken : (bs s rest : Bytes) → next_frame bs ≡ Whole s rest → length bs ≡ 4 + length s + length rest
taken [] s rest e = cc
taken (a ∷ []) s rest e = cc
taken (a ∷ b ∷ []) s rest e = cc
taken (a ∷ b ∷ c ∷ []) s rest e = cc
taken (a ∷ b ∷ c ∷ d ∷ r) s rest e = let h : length r ≡ length s + length rest = behind_length (from_be_bytes w32 (a ∷ b ∷ c ∷ d ∷ [])) r s rest e in omega (arith, h)

-- the end is where nothing is left
not_end : (b c : Bool) (s rest : Bytes) (n g m h : ℕ) → cond b (cond c (Whole s rest) (Bad n g)) (Bad m h) ≡ AtEnd → ⊥
not_end true true s rest n g m h e = cc
not_end true false s rest n g m h e = cc
not_end false c s rest n g m h e = cc

pub at_end : (bs : Bytes) → next_frame bs ≡ AtEnd → bs ≡ []
at_end [] e = refl
at_end (a ∷ []) e = cc
at_end (a ∷ b ∷ []) e = cc
at_end (a ∷ b ∷ c ∷ []) e = cc
at_end (a ∷ b ∷ c ∷ d ∷ r) e =
    let n : ℕ = from_be_bytes w32 (a ∷ b ∷ c ∷ d ∷ []) in
    absurd (not_end (nat_le n longest_frame) (nat_le n (length r)) (take n r) (drop n r) n (4 + length r) n 4 e)

-- what is left is no longer than all
shorter : {bs left : Bytes} {ss : List Bytes} → Framed bs ss left → length left ≤ length bs
shorter no_more = omega arith
shorter {bs = bs} (a_frame {rest = rest} {s = s} is more) = let k : length bs ≡ 4 + length s + length rest = taken bs s rest is in let l = shorter more in omega (arith, k, l)

-- injections
all_one : (ss ts : List Bytes) → AllFrames ss ≡ AllFrames ts → ss ≡ ts
all_one ss ts e = cc

bad_one : (i j : ℕ) → BadFrame i ≡ BadFrame j → i ≡ j
bad_one i j e = cc

-- in front of a whole channel, and of a bad frame
front_whole : (s : Bytes) (x : ChannelFrames) (ss : List Bytes) → in_front s x ≡ AllFrames ss → (ts : List Bytes) × (x ≡ AllFrames ts) × (s ∷ ts ≡ ss)
front_whole s (AllFrames ts) ss e = (ts, refl, all_one (s ∷ ts) ss e)
front_whole s (BadFrame k) ss e = absurd (cc)

front_bad : (s : Bytes) (x : ChannelFrames) (i : ℕ) → in_front s x ≡ BadFrame i → x ≡ BadFrame i
front_bad s (AllFrames ts) i e = cc
front_bad s (BadFrame k) i e = e

-- what a test lets go on
on_whole : (b : Bool) (x : ChannelFrames) (k : ℕ) (ss : List Bytes) → cond b x (BadFrame k) ≡ AllFrames ss → (b ≡ true) × (x ≡ AllFrames ss)
on_whole true x k ss e = (refl, e)
on_whole false x k ss e = absurd (cc)

-- a frame that fits
fits : (s : Bytes) (room : ℕ) → nat_le (4 + length s) room ≡ true → 4 + length s ≤ room
fits s room e = leb-true (4 + length s) room e

-- all frames were read: they are there, and within the limits
pub whole_read : (most k room : ℕ) (bs : Bytes) (ss : List Bytes) → frames_from most k room bs ≡ AllFrames ss → IsWithin most room bs ss
whole_read zero k room bs ss e = by (next_frame bs) refl e
  where
    by : (f : Frame) → next_frame bs ≡ f → frames_by k (λ s rest. BadFrame k) f ≡ AllFrames ss → IsWithin zero room bs ss
    by (Whole s rest) q h = absurd (cc)
    by (Bad n g) q h = absurd (cc)
    by AtEnd q h =
        subst (λ ss. IsWithin zero room bs ss) (all_one [] ss h)
        (subst (λ bs. IsWithin zero room bs []) (sym (at_end bs q)) (record { framed = no_more; few = omega arith; short = omega arith }))
whole_read (suc most) k room bs ss e = by (whole_read most (suc k)) (next_frame bs) refl e
  where
    by : ((room : ℕ) (bs : Bytes) (ss : List Bytes) → frames_from most (suc k) room bs ≡ AllFrames ss → IsWithin most room bs ss) → (f : Frame) → next_frame bs ≡ f
        → frames_by k (λ s rest. cond (nat_le (4 + length s) room) (in_front s (frames_from most (suc k) (room - (4 + length s)) rest)) (BadFrame k)) f ≡ AllFrames ss → IsWithin (suc most) room bs ss
    by more (Whole s rest) q h =
        let t = on_whole (nat_le (4 + length s) room) (in_front s (frames_from most (suc k) (room - (4 + length s)) rest)) k ss h in
        let u = front_whole s (frames_from most (suc k) (room - (4 + length s)) rest) ss t.1 in
        let r = more (room - (4 + length s)) rest u.0 u.1 in
        let l : 4 + length s ≤ room = fits s room t.0 in
        let n : length bs ≡ 4 + length s + length rest = taken bs s rest q in
        let few : length u.0 ≤ most = r.few in
        let short : length rest ≤ room - (4 + length s) = r.short in
        subst (λ ss. IsWithin (suc most) room bs ss) u.2 (record { framed = a_frame q r.framed; few = omega (arith, few); short = omega (arith, l, n, short) })
    by more (Bad n g) q h = absurd (cc)
    by more AtEnd q h =
        subst (λ ss. IsWithin (suc most) room bs ss) (all_one [] ss h)
        (subst (λ bs. IsWithin (suc most) room bs []) (sym (at_end bs q)) (record { framed = no_more; few = omega arith; short = omega arith }))

-- and what is there within the limits is read
pub whole_is_read : (most k room : ℕ) {bs : Bytes} (ss : List Bytes) → Framed bs ss [] → length ss ≤ most → length bs ≤ room → frames_from most k room bs ≡ AllFrames ss
whole_is_read zero k room [] no_more few short = refl
whole_is_read (suc most) k room [] no_more few short = refl
whole_is_read zero k room (s ∷ ss) f few short = absurd (omega (arith, few))
whole_is_read (suc most) k room {bs = bs} (s ∷ ss) (a_frame {rest = rest} q more) few short =
    let n : length bs ≡ 4 + length s + length rest = taken bs s rest q in
    let l : 4 + length s ≤ room = omega (arith, n, short) in
    let next : frames_from most (suc k) (room - (4 + length s)) rest ≡ AllFrames ss = whole_is_read most (suc k) (room - (4 + length s)) ss more (omega (arith, few)) (omega (arith, n, short, l)) in
    ap (frames_by k (λ s rest. cond (nat_le (4 + length s) room) (in_front s (frames_from most (suc k) (room - (4 + length s)) rest)) (BadFrame k))) q
    ∙ cond-true _ _ _ (le-leb (4 + length s) room l) ∙ ap (in_front s) next

-- a bad frame stands behind j others that are within the limits
pub record HasStopped (most k room : ℕ) (bs : Bytes) (i : ℕ) : Type 0 where
  pub others : ℕ
  pub number : i ≡ k + others
  pub stops : StopsBehind most room bs others

-- here already
here : (most k room : ℕ) (bs : Bytes) → NoFrame most room bs bs 0 → HasStopped most k room bs k
here most k room bs none = record {
  others = 0;
  number = omega arith;
  stops = record { before = []; left = bs; framed = no_more; number = refl; few = omega arith; short = omega arith; none = none };
}

-- behind one more
later : (most room : ℕ) (bs s rest : Bytes) → next_frame bs ≡ Whole s rest → 4 + length s ≤ room → (j : ℕ) → StopsBehind most (room - (4 + length s)) rest j → StopsBehind (suc most) room bs (suc j)
later most room bs s rest q l j b = record {
  before = s ∷ b.before;
  left = b.left;
  framed = a_frame q b.framed;
  number = ap suc b.number;
  few = let f : length b.before ≤ most = b.few in omega (arith, f);
  short = let f : length rest ≤ (room - (4 + length s)) + length b.left = b.short in omega (arith, f, l, n);
  none = why b.none;
}
  where
    n : length bs ≡ 4 + length s + length rest
    n = taken bs s rest q

    why : NoFrame most (room - (4 + length s)) rest b.left j → NoFrame (suc most) room bs b.left (suc j)
    why (bad m g e) = bad m g e
    why (past t r e far) = past t r e (omega (arith, far, l, n))
    why (too_many t r e is) = too_many t r e (ap suc is)

pub bad_read : (most k room : ℕ) (bs : Bytes) (i : ℕ) → frames_from most k room bs ≡ BadFrame i → HasStopped most k room bs i
bad_read zero k room bs i e = by (next_frame bs) refl e
  where
    by : (f : Frame) → next_frame bs ≡ f → frames_by k (λ s rest. BadFrame k) f ≡ BadFrame i → HasStopped zero k room bs i
    by (Whole s rest) q h = subst (HasStopped zero k room bs) (bad_one k i h) (here zero k room bs (too_many s rest q refl))
    by (Bad n g) q h = subst (HasStopped zero k room bs) (bad_one k i h) (here zero k room bs (bad n g q))
    by AtEnd q h = absurd (cc)
bad_read (suc most) k room bs i e = by (bad_read most (suc k)) (next_frame bs) refl e
  where
    by : ((room : ℕ) (bs : Bytes) (i : ℕ) → frames_from most (suc k) room bs ≡ BadFrame i → HasStopped most (suc k) room bs i) → (f : Frame) → next_frame bs ≡ f
        → frames_by k (λ s rest. cond (nat_le (4 + length s) room) (in_front s (frames_from most (suc k) (room - (4 + length s)) rest)) (BadFrame k)) f ≡ BadFrame i → HasStopped (suc most) k room bs i
    by more (Whole s rest) q h = test (nat_le (4 + length s) room) refl h
      where
        n : length bs ≡ 4 + length s + length rest
        n = taken bs s rest q

        test : (b : Bool) → nat_le (4 + length s) room ≡ b → cond b (in_front s (frames_from most (suc k) (room - (4 + length s)) rest)) (BadFrame k) ≡ BadFrame i → HasStopped (suc most) k room bs i
        test true t h =
            let l : 4 + length s ≤ room = fits s room t in
            let r = more (room - (4 + length s)) rest i (front_bad s (frames_from most (suc k) (room - (4 + length s)) rest) i h) in
            let m : i ≡ suc k + r.others = r.number in
            record { others = suc r.others; number = omega (arith, m); stops = later most room bs s rest q l r.others r.stops }
        test false t h =
            let l : room < 4 + length s = leb-false (4 + length s) room t in
            subst (HasStopped (suc most) k room bs) (bad_one k i h) (here (suc most) k room bs (past s rest q (omega (arith, l, n))))
    by more (Bad n g) q h = subst (HasStopped (suc most) k room bs) (bad_one k i h) (here (suc most) k room bs (bad n g q))
    by more AtEnd q h = absurd (cc)

-- and what stops so is read as a bad frame
stopped : (most k room : ℕ) (bs left : Bytes) (before : List Bytes) (j : ℕ) → Framed bs before left → j ≡ length before → length before ≤ most → length bs ≤ room + length left → NoFrame most room bs left j
    → frames_from most k room bs ≡ BadFrame (k + j)
stopped zero k room bs left [] j no_more is few short (bad n g e) = let z : j ≡ 0 = is in ap (frames_by k (λ s rest. BadFrame k)) e ∙ ap BadFrame (omega (arith, z))
stopped zero k room bs left [] j no_more is few short (past s rest e far) = let z : j ≡ 0 = is in ap (frames_by k (λ s rest. BadFrame k)) e ∙ ap BadFrame (omega (arith, z))
stopped zero k room bs left [] j no_more is few short (too_many s rest e at) = let z : j ≡ 0 = is in ap (frames_by k (λ s rest. BadFrame k)) e ∙ ap BadFrame (omega (arith, z))
stopped (suc most) k room bs left [] j no_more is few short (bad n g e) =
    let z : j ≡ 0 = is in
    ap (frames_by k (λ s rest. cond (nat_le (4 + length s) room) (in_front s (frames_from most (suc k) (room - (4 + length s)) rest)) (BadFrame k))) e ∙ ap BadFrame (omega (arith, z))
stopped (suc most) k room bs left [] j no_more is few short (past s rest e far) =
    let n : length bs ≡ 4 + length s + length rest = taken bs s rest e in
    let z : j ≡ 0 = is in
    ap (frames_by k (λ s rest. cond (nat_le (4 + length s) room) (in_front s (frames_from most (suc k) (room - (4 + length s)) rest)) (BadFrame k))) e
    ∙ cond-false _ _ _ (lt-leb (4 + length s) room (omega (arith, far, n))) ∙ ap BadFrame (omega (arith, z))
stopped (suc most) k room bs left [] j no_more is few short (too_many s rest e at) = let z : j ≡ 0 = is in absurd (omega (arith, z, at))
stopped zero k room bs left (s ∷ before) j f is few short none = absurd (omega (arith, few))
stopped (suc most) k room bs left (s ∷ before) zero f is few short none = let z : zero ≡ suc (length before) = is in absurd (omega (arith, z))
stopped (suc most) k room bs left (s ∷ before) (suc j) (a_frame {rest = rest} q more) is few short none =
    let n : length bs ≡ 4 + length s + length rest = taken bs s rest q in
    let m : length left ≤ length rest = shorter more in
    let l : 4 + length s ≤ room = omega (arith, n, m, short) in
    let next : frames_from most (suc k) (room - (4 + length s)) rest ≡ BadFrame (suc k + j) = stopped most (suc k) (room - (4 + length s)) rest left before j more (omega (arith, is)) (omega (arith, few)) (omega (arith, n, short, l)) (why n l none) in
    ap (frames_by k (λ s rest. cond (nat_le (4 + length s) room) (in_front s (frames_from most (suc k) (room - (4 + length s)) rest)) (BadFrame k))) q
    ∙ cond-true _ _ _ (le-leb (4 + length s) room l) ∙ ap (in_front s) next ∙ ap BadFrame (omega arith)
  where
    why : length bs ≡ 4 + length s + length rest → 4 + length s ≤ room → NoFrame (suc most) room bs left (suc j) → NoFrame most (room - (4 + length s)) rest left j
    why n l (bad m g e) = bad m g e
    why n l (past t r e far) = past t r e (omega (arith, far, l, n))
    why n l (too_many t r e at) = too_many t r e (omega (arith, at))

-- a channel is whole with these strings exactly where they are its frames, within the limits
pub whole_channel : (bs : Bytes) (ss : List Bytes) → channel_frames bs ≡ AllFrames ss → IsWholeChannel bs ss
whole_channel bs ss e = whole_read most_frames 1 longest_channel bs ss e

pub is_whole_channel : (bs : Bytes) (ss : List Bytes) → IsWholeChannel bs ss → channel_frames bs ≡ AllFrames ss
is_whole_channel bs ss w = whole_is_read most_frames 1 longest_channel ss w.framed w.few w.short

-- and refused at frame k exactly where that is the first that is none, ends past the limit, or is one too many
pub bad_channel : (bs : Bytes) (k : ℕ) → channel_frames bs ≡ BadFrame k → IsBadAt bs k
bad_channel bs k e = let h = bad_read most_frames 1 longest_channel bs k e in let m : k ≡ 1 + h.others = h.number in record { others = h.others; is = omega (arith, m); stops = h.stops }

pub is_bad_channel : (bs : Bytes) (k : ℕ) → IsBadAt bs k → channel_frames bs ≡ BadFrame k
is_bad_channel bs k b =
    let s = b.stops in
    let i : k ≡ suc b.others = b.is in
    stopped most_frames 1 longest_channel bs s.left s.before b.others s.framed s.number s.few s.short s.none ∙ ap BadFrame (omega (arith, i))
