-- The frames that are read one by one are those of the channel.
use Rattle.std.proofs.Common.{◌≡◌, refl, sym, ap, ap₂, ◌∙◌, ℕ, zero, suc, ◌+◌, ◌-◌, ◌<◌, ◌≤◌, cond, nat_le, le-leb, Result, Ok, Err, IsErrOf, List, [], ◌∷◌, ◌++◌, map, length, arith, append-nil, length-append}
use Rattle.std.proofs.lemmas.Bool.{cond-true, cond-false, lt-leb}
use Rattle.std.proofs.lemmas.List.{map-append}
use Rattle.ac_types.specs.Types.{Bytes}
use Rattle.ac_types.specs.declared.text.Text.{Text}
use Rattle.ac_outside.specs.Frames.{Whole, Bad, AtEnd, next_frame}
use Rattle.ac_channels.specs.ChannelFrames.{ChannelFrames, AllFrames, BadFrame, in_front, frames_by, frames_from, most_frames, longest_channel, channel_frames}
use Rattle.ac_channels.specs.inner.Fronts.{in_fronts}
use Rattle.ac_channels.specs.declared.reading.ChannelFault.{ChannelFault}
use Rattle.ac_channels.specs.declared.reading.ChannelFault.TheVariants as fault

-- strings in front
fronts_more : (ss : List Bytes) (s : Bytes) (x : ChannelFrames) → in_fronts (ss ++ s ∷ []) x ≡ in_fronts ss (in_front s x)
fronts_more [] s x = refl
fronts_more (r ∷ ss) s x = ap (in_front r) (fronts_more ss s x)

fronts_bad : (ss : List Bytes) (k : ℕ) → in_fronts ss (BadFrame k) ≡ BadFrame k
fronts_bad [] k = refl
fronts_bad (s ∷ ss) k = ap (in_front s) (fronts_bad ss k)

fronts_all : (ss ts : List Bytes) → in_fronts ss (AllFrames ts) ≡ AllFrames (ss ++ ts)
fronts_all [] ts = refl
fronts_all (s ∷ ss) ts = ap (in_front s) (fronts_all ss ts)

-- one frame
abbrev step : ℕ → ℕ → ℕ → Bytes → Bytes → ChannelFrames
step more k room s rest = cond (nat_le (4 + length s) room) (in_front s (frames_from more (suc k) (room - (4 + length s)) rest)) (BadFrame k)

whole_fits : (more k room : ℕ) (left s rest : Bytes) → next_frame left ≡ Whole s rest → 4 + length s ≤ room → frames_from (suc more) k room left ≡ in_front s (frames_from more (suc k) (room - (4 + length s)) rest)
whole_fits more k room left s rest e fits = ap (frames_by k (step more k room)) e ∙ cond-true _ _ _ (le-leb (4 + length s) room fits)

whole_past : (more k room : ℕ) (left s rest : Bytes) → next_frame left ≡ Whole s rest → room < 4 + length s → frames_from (suc more) k room left ≡ BadFrame k
whole_past more k room left s rest e past = ap (frames_by k (step more k room)) e ∙ cond-false _ _ _ (lt-leb (4 + length s) room past)

whole_full : (k room : ℕ) (left s rest : Bytes) → next_frame left ≡ Whole s rest → frames_from zero k room left ≡ BadFrame k
whole_full k room left s rest e = ap (frames_by k (λ s rest. BadFrame k)) e

at_bad : (more k room : ℕ) (left : Bytes) (n g : ℕ) → next_frame left ≡ Bad n g → frames_from more k room left ≡ BadFrame k
at_bad zero k room left n g e = ap (frames_by k (λ s rest. BadFrame k)) e
at_bad (suc more) k room left n g e = ap (frames_by k (step more k room)) e

at_end : (more k room : ℕ) (left : Bytes) → next_frame left ≡ AtEnd → frames_from more k room left ≡ AllFrames []
at_end zero k room left e = ap (frames_by k (λ s rest. BadFrame k)) e
at_end (suc more) k room left e = ap (frames_by k (step more k room)) e

-- the strings of texts
abbrev pub strings_of : List Text → List Bytes
strings_of texts = map (λ (t : Text). t.0) texts

-- the channel's frames are those of these texts and those that are left, of which so many may come within so many bytes
pub record HasRead (start left : Bytes) (texts : List Text) (more room : ℕ) : Type 0 where
  pub few : length texts + more ≡ most_frames
  pub frames : channel_frames start ≡ in_fronts (strings_of texts) (frames_from more (length texts + 1) room left)

-- where nothing is read
pub read_none : (start : Bytes) (texts : List Text) → texts ≡ [] → HasRead start start texts (most_frames - length texts) 67108864
unfolding longest_channel most_frames
read_none start texts e = rw e (record { few = refl; frames = refl })

-- there is room for one more
pub room_for_one : (texts after : List Text) (text : Text) → after ≡ texts ++ text ∷ [] → length texts ≤ most_frames → (length texts ≡ 4096 → ⊥) → length after ≤ most_frames
unfolding most_frames
room_for_one texts after text is few not = let n = ap length is ∙ length-append texts (text ∷ []) in omega (arith, few, not, n)

pub all_there : (texts : List Text) → length texts ≡ 4096 → length texts ≡ most_frames
unfolding most_frames
all_there texts e = e

-- errors of results that hold something else where they are well
pub error_alone : {A B E : Type 0} {x y : E} → IsErrOf {T = A} (Err x) y → IsErrOf {T = B} (Err x) y
error_alone {B = B} {E = E} {x = x} e = ap (λ r. elim r as (λ z. Result B E) [ Ok a ↦ Err x | Err y ↦ Err y ]) e

abbrev number : {A : Type 0} → Result A ChannelFault → ℕ
number (Err (fault.BadFrame k)) = k
number _ = 0

pub its_number : {A : Type 0} (a b : ℕ) → IsErrOf {T = A} (Err (fault.BadFrame a)) (fault.BadFrame b) → b ≡ a
its_number a b e = sym (ap number e)

module _ (start left : Bytes) (texts : List Text) (room : ℕ) where
  pub read_bad : (more : ℕ) → HasRead start left texts more room → (n : ℕ) × (g : ℕ) × (next_frame left ≡ Bad n g) → channel_frames start ≡ BadFrame (length texts + 1)
  read_bad more h b = h.frames ∙ ap (in_fronts (strings_of texts)) (at_bad more (length texts + 1) room left b.0 b.1 b.2) ∙ fronts_bad (strings_of texts) (length texts + 1)

  pub read_all : (more : ℕ) → HasRead start left texts more room → next_frame left ≡ AtEnd → channel_frames start ≡ AllFrames (strings_of texts)
  read_all more h e =
      h.frames ∙ ap (in_fronts (strings_of texts)) (at_end more (length texts + 1) room left e) ∙ fronts_all (strings_of texts) [] ∙ ap AllFrames (append-nil (strings_of texts))

  pub read_full : (more : ℕ) → HasRead start left texts more room → length texts ≡ most_frames → (s rest : Bytes) → next_frame left ≡ Whole s rest → channel_frames start ≡ BadFrame (length texts + 1)
  read_full zero h full s rest e = h.frames ∙ ap (in_fronts (strings_of texts)) (whole_full (length texts + 1) room left s rest e) ∙ fronts_bad (strings_of texts) (length texts + 1)
  read_full (suc more) h full s rest e = let few : length texts + suc more ≡ most_frames = h.few in absurd (omega (arith, few, full))

  pub read_past : (more : ℕ) → HasRead start left texts more room → (s rest : Bytes) → next_frame left ≡ Whole s rest → room < 4 + length s → channel_frames start ≡ BadFrame (length texts + 1)
  read_past zero h s rest e past = h.frames ∙ ap (in_fronts (strings_of texts)) (whole_full (length texts + 1) room left s rest e) ∙ fronts_bad (strings_of texts) (length texts + 1)
  read_past (suc more) h s rest e past = h.frames ∙ ap (in_fronts (strings_of texts)) (whole_past more (length texts + 1) room left s rest e past) ∙ fronts_bad (strings_of texts) (length texts + 1)

  -- one more text
  pub read_more : (more : ℕ) → HasRead start left texts (suc more) room → (text : Text) (rest : Bytes) → next_frame left ≡ Whole text.0 rest → 4 + length text.0 ≤ room → (after : List Text) → after ≡ texts ++ text ∷ [] → (now : ℕ) → now ≡ room - (4 + length text.0)
      → HasRead start rest after more now
  read_more more h text rest e fits after is now now_is = record {
    few = let few : length texts + suc more ≡ most_frames = h.few in omega (arith, few, count);
    frames =
        h.frames ∙ ap (in_fronts (strings_of texts)) (whole_fits more (length texts + 1) room left text.0 rest e fits)
        ∙ sym (fronts_more (strings_of texts) text.0 _)
        ∙ ap₂ (λ (ss : List Bytes) (k : ℕ). in_fronts ss (frames_from more k (room - (4 + length text.0)) rest)) (sym strings) (omega (arith, count))
        ∙ ap (λ (r : ℕ). in_fronts (strings_of after) (frames_from more (length after + 1) r rest)) (sym now_is);
  }
    where
      count : length after ≡ length texts + 1
      count = ap length is ∙ length-append texts (text ∷ [])

      strings : strings_of after ≡ strings_of texts ++ text.0 ∷ []
      strings = ap strings_of is ∙ map-append (λ (t : Text). t.0) texts (text ∷ [])
