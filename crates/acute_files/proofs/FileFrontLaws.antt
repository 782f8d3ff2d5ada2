-- What a read of a file takes of its front, and that the front tells the frames.
use Rattle.std.proofs.Common.{◌≡◌, ◌≤◌, ◌<◌, ◌+◌, ◌-◌, ℕ, suc, zero, IsTrue, [], ◌∷◌, ◌++◌, Option, Some, None, length, take, drop, refl, sym, ◌∙◌, ap, ap₂, subst, arith}
use Rattle.std.specs.Prelude.{Result, Ok, Err, IfOk, slice_set}
use Rattle.std.proofs.lemmas.List.{drop-take, drop_all, length-take, take-take, take_all, take-append-le}
use Rattle.ac_types.specs.Types.{Bytes}
use Rattle.ac_outside.specs.Outside.{Contents, IsWithin, ReadsFrom, Taken, Takes, or_empty, rest}
use Rattle.ac_outside.specs.declared.traits.Got.{Got}
use Rattle.ac_outside.specs.declared.traits.Got.TheVariants as got
use Rattle.ac_channels.specs.ChannelFrames.{ChannelFrames, AllFrames, channel_frames, frames_from, longest_channel, most_frames}
use Rattle.ac_channels.proofs.FrontLaws.{front_tells}
use Rattle.acute_files.specs.ChannelFiles.{HasFrames}
use Rattle.acute_files.specs.Files.{Reading}
use Rattle.acute_files.specs.inner.FileFronts.{BeginsWith, byte_held, front_left, longest_front}

-- the byte that is held is taken
pub held_taken : (held : Option ℕ) (b : ℕ) (left buf : Bytes) → held ≡ Some b → 0 < length buf → Taken 1 (byte_held held ++ left) (slice_set buf 0 b)
held_taken None b left buf e h = absurd (cc)
held_taken (Some a) b left [] e h = absurd (omega arith)
held_taken (Some a) b left (x ∷ buf) e h = let same : a ≡ b = cc in record { there = omega arith; same = ap (λ (y : ℕ). y ∷ []) (sym same) }

-- behind the front nothing is left
pub nothing_left : (held : Option ℕ) (file : Option Bytes) (place : ℕ) → held ≡ None → longest_front ≤ place → byte_held held ++ front_left file place ≡ []
nothing_left held file place e h =
    let xs : Bytes = or_empty file in
    let none : front_left file place ≡ [] = drop_all place (take longest_front xs) (omega (arith, length-take longest_front xs)) in
    ap (λ (o : Option ℕ). byte_held o ++ front_left file place) e ∙ none

-- what stands from a place on, and as much of it as the front has
front_from : (bytes : Bytes) (place more : ℕ) → place + more ≡ longest_front → front_left (Some bytes) place ≡ take more (drop place bytes)
front_from bytes place more e = subst (λ (n : ℕ). drop place (take n bytes) ≡ take more (drop place bytes)) e (drop-take place more bytes)

-- what a read of the file takes, where it asks for no more than the front has
front_taken : (g : Got) (file : Option Bytes) (place most : ℕ) (buf more : Bytes) → ReadsFrom g file place buf → IsWithin g (length buf) → length buf ≡ most → place + most ≤ longest_front → Takes g (front_left file place) (buf ++ more)
front_taken (got.Bytes n) None place most buf more r w l h = absurd (cc)
front_taken (got.Bytes n) (Some bytes) place most buf more r w l h =
    let room : ℕ = longest_front - place in
    let from : front_left (Some bytes) place ≡ take room (drop place bytes) = front_from bytes place room (omega arith) in
    let there = r.there in
    let within = w.1 in
    record {
      there = omega (arith, ap length from, length-take room (drop place bytes), there, within);
      same = take-append-le n buf more within ∙ r.same ∙ sym (ap (take n) from ∙ take-take n room (drop place bytes) (omega (arith, within)));
    }
front_taken got.End None place most buf more r w l h = absurd (cc)
front_taken got.End (Some bytes) place most buf more r w l h =
    let room : ℕ = longest_front - place in
    front_from bytes place room (omega arith) ∙ ap (take room) r ∙ take_all room [] (omega arith)
front_taken got.Failed file place most buf more r w l h = tt

-- the same, where no byte is held
pub read_on :
    (g : Got) (held : Option ℕ) (file : Option Bytes) (place most : ℕ) (buf more : Bytes) → held ≡ None → ReadsFrom g file place buf → IsWithin g (length buf) → length buf ≡ most → place + most ≤ longest_front →
    Takes g (byte_held held ++ front_left file place) (buf ++ more)
read_on g held file place most buf more none r w l h =
    subst (λ (o : Option ℕ). Takes g (byte_held o ++ front_left file place) (buf ++ more)) (sym none) (front_taken g file place most buf more r w l h)

pub within_more : (g : Got) (m n : ℕ) → m ≤ n → IsWithin g m → IsWithin g n
within_more (got.Bytes k) m n h w = (w.0, omega (arith, w.1))
within_more got.End m n h w = tt
within_more got.Failed m n h w = tt

-- where no bytes are taken, what is left is the same
pub all_left : (g : Got) (xs ys : Bytes) → ((n : ℕ) → g ≡ got.Bytes n → ⊥) → xs ≡ ys → xs ≡ rest g ys
all_left (got.Bytes n) xs ys none e = absurd (none n refl)
all_left got.End xs ys none e = e
all_left got.Failed xs ys none e = e

pub same_left : (held now : Option ℕ) (before after : Contents) (name : Bytes) (place : ℕ) → now ≡ None → held ≡ None → after ≡ before → byte_held now ++ front_left (after name) place ≡ byte_held held ++ front_left (before name) place
same_left held now before after name place e h same = ap₂ (λ (o : Option ℕ) (c : Contents). byte_held o ++ front_left (c name) place) (e ∙ sym h) same

-- the first byte, and what is behind it, are the front
front_held : (b : ℕ) (bytes : Bytes) → b ∷ front_left (Some (b ∷ bytes)) 1 ≡ take longest_front (b ∷ bytes)
unfolding longest_front
front_held b bytes = by (longest_channel + 1) (omega arith)
  where
    by : (n : ℕ) → 0 < n → b ∷ drop 1 (take n (b ∷ bytes)) ≡ take n (b ∷ bytes)
    by zero h = absurd (omega arith)
    by (suc n) h = refl

told_by_front : (bytes : Bytes) → channel_frames (take longest_front bytes) ≡ channel_frames bytes
unfolding longest_front
told_by_front bytes = front_tells bytes

-- so they tell the frames of the file
pub frames_told : (file : Reading) (first : ℕ) (f : ChannelFrames) → (IsTrue file.told → BeginsWith file.bytes first) → (IsTrue file.told → channel_frames (first ∷ front_left file.bytes 1) ≡ f) → HasFrames file f
frames_told file first f begins is = λ told.
    let b = begins told in
    let bytes : Bytes = first ∷ b.0 in
    (bytes, b.1, sym (told_by_front bytes) ∙ sym (ap channel_frames (ap (λ (o : Option Bytes). first ∷ front_left o 1) b.1 ∙ front_held first b.0)) ∙ is told)

-- a file that ends at once has none
none_from : (more k room : ℕ) → frames_from more k room [] ≡ AllFrames []
none_from zero k room = refl
none_from (suc more) k room = refl

ended : (file : Option Bytes) (buf : Bytes) → ReadsFrom got.End file 0 buf → file ≡ Some []
ended None buf r = absurd (cc)
ended (Some bytes) buf r = ap Some r

pub no_frames : (file : Reading) (buf : Bytes) (f : ChannelFrames) → (IsTrue file.told → ReadsFrom got.End file.bytes 0 buf) → f ≡ AllFrames [] → HasFrames file f
no_frames file buf f reads e = λ told. ([], ended file.bytes buf (reads told), none_from most_frames 1 longest_channel ∙ sym e)

-- what is said of a result where something is told, and of what is told in the result
pub told_of : {A E : Type 0} (told : Type 0) (r : Result A E) (P Q : A → Type 0) → ((a : A) → (told → P a) → Q a) → (told → IfOk r P) → IfOk r Q
told_of told (Ok a) P Q f h = f a h
told_of told (Err e) P Q f h = tt
