-- The steps of a reader of frames.
use Rattle.std.proofs.Common.{◌≡◌, ℕ, ◌+◌, ◌<◌, ◌≤◌, [], ◌++◌, length, refl, sym, ap, ◌∙◌, append_assoc, subst, length-append, arith}
use Rattle.std.specs.Int.{from_be_bytes, w32}
use Rattle.std.proofs.lemmas.List.{append-nil}
use Rattle.ac_types.specs.Types.{Bytes}
use Rattle.ac_outside.specs.inner.Filling.{Lengthened}
use Rattle.ac_types.specs.Limits.{longest_frame}
use Rattle.ac_outside.specs.Frames.{Whole, next_frame}
use Rattle.ac_outside.specs.Outside.{Rose}
use Rattle.ac_outside.specs.FrameReaders.{AnswersFrame, Keeps, Reader, ReaderGoesOn, Refused}
use Rattle.ac_outside.specs.declared.frames.FrameGot.{FrameGot}
use Rattle.ac_outside.specs.declared.frames.FrameGot.TheVariants as answers
use Rattle.ac_outside.proofs.FrameLaws.{behind, too_long, whole, early}

pub grown_none : (a : Bytes) → Lengthened a a
grown_none a = record { more = []; is = sym (append-nil a) }

pub grown_on : (a b c : Bytes) → Lengthened a b → Lengthened b c → Lengthened a c
grown_on a b c h k = record { more = h.more ++ k.more; is = k.is ∙ ap (λ l. l ++ k.more) h.is ∙ append_assoc a h.more k.more }

pub grown_same : (a b c : Bytes) → Lengthened a b → c ≡ b → Lengthened a c
grown_same a b c h e = record { more = h.more; is = e ∙ h.is }

-- a count has risen also from an earlier one
pub rose_on : (a b c : ℕ) → a ≤ b → Rose b c → Rose a c
rose_on a b c h k = omega arith

-- a reader that has taken more goes on as the one before it
pub more_goes : (answer : FrameGot) (a b body : Bytes) (new : Reader) → body ≡ [] → Lengthened a b → 0 < length b
    → ReaderGoesOn answer (b ++ body) new → ReaderGoesOn answer (a ++ body) new
more_goes (answers.Frame s) a b body new none h some k = k
more_goes answers.End a b body new none h some k =
    let nothing : length b + length body ≡ 0 = sym (length-append b body) ∙ ap length k.0 in absurd (omega arith)
more_goes (answers.Bad n g) a b body new none h some k = k
more_goes answers.Failed a b body new none h some k = (h.more ++ k.0, k.1 ∙ ap Keeps (longer none))
  where
    longer : body ≡ [] → (b ++ body) ++ k.0 ≡ (a ++ body) ++ (h.more ++ k.0)
    longer e = rw e (ap (λ l. l ++ k.0) (append-nil b ∙ h.is) ∙ append_assoc a h.more k.0 ∙ ap (λ l. l ++ (h.more ++ k.0)) (sym (append-nil a)))
more_goes answers.Memory a b body new none h some k = k

-- and answers the same, where its source has lost what it has taken
pub more_gives : (answer : FrameGot) (a b body l m : Bytes) (new : Reader) (k : Bytes) → body ≡ [] → a ++ l ≡ b ++ m
    → AnswersFrame answer ((b ++ body) ++ m) new k → AnswersFrame answer ((a ++ body) ++ l) new k
more_gives answer a b body l m new k none e h =
    let before : a ++ body ≡ a = ap (λ x. a ++ x) none ∙ append-nil a in
    let now : b ++ body ≡ b = ap (λ x. b ++ x) none ∙ append-nil b in
    let same : (b ++ body) ++ m ≡ (a ++ body) ++ l = ap (λ x. x ++ m) now ∙ sym e ∙ ap (λ x. x ++ l) (sym before) in
    subst (λ all. AnswersFrame answer all new k) same h

module _ (h b l : Bytes) (n : ℕ) (four : length h ≡ 4) (is : n ≡ from_be_bytes w32 h) where
  pub over_goes : longest_frame < n → ReaderGoesOn (answers.Bad n 4) (h ++ b) (Refused n 4)
  over_goes over = (record { bytes = h ++ b; is = behind h b n four is ∙ too_long n b over }, refl)

  pub whole_gives : (c k : Bytes) → n ≤ longest_frame → length c ≡ n → b ++ l ≡ c ++ k → next_frame ((h ++ b) ++ l) ≡ Whole c k
  whole_gives c k le all e = ap next_frame (append_assoc h b l ∙ ap (λ x. h ++ x) e) ∙ behind h (c ++ k) n four is ∙ whole n c k le all

  pub early_goes : (c : Bytes) → n ≤ longest_frame → length c < n → ReaderGoesOn (answers.Bad n (4 + length c)) (h ++ b) (Refused n (4 + length c))
  early_goes c le less = (record { bytes = h ++ c; is = behind h c n four is ∙ early n c le less }, refl)
