-- What comes to a session that reads.
use Rattle.std.proofs.Common.{◌≡◌, ◌≤◌, ℕ, Bool, true, false, [], ◌++◌, length, drop, IsTrue, Option, Some, None, refl, sym, ap, ◌∙◌, subst}
use Rattle.std.specs.Prelude.{Ok, Err, IfOk, IsErr, OnOk, OnErr}
use Rattle.std.specs.declared.result.Result.{Result}
use Rattle.ac_types.specs.ReadNumbers.{exn_number, exn_text}
use Rattle.ac_types.specs.declared.memory.Memory.{Memory}
use Rattle.ac_types.specs.Limits.{longest_frame}
use Rattle.ac_types.specs.Types.{Bytes}
use Rattle.ac_types.specs.declared.text.Text.{Text}
use Rattle.ac_types.specs.declared.exceptions.Exn.{Exn}
use Rattle.ac_outside.specs.Frames.{Frame, Whole, Bad, AtEnd, frame_of, next_frame}
use Rattle.ac_outside.specs.FrameReaders.{IsBad}
use Rattle.ac_outside.proofs.FrameLaws.{frame_back}
use Rattle.ac_machine_engine.specs.Resumes.{resumed, resumed_text, with_raise}
use Rattle.ac_machine_engine.specs.Seen.{MachineSeen, standing}
use Rattle.ac_meaning.specs.ReadExn.{exn_of}
use Rattle.ac_meaning.specs.Worlds.{end_of_file_exn, bad_frame}
use Rattle.ac_run.specs.Sessions.{Streams}
use Rattle.ac_run.specs.inner.Inboxes.{MayCome, IsLeft, NoneLeft, Heard, Comes}
use Rattle.ac_run.specs.inner.Turns.{Served, HasGotFrame, Received}
use Rattle.ac_run.specs.declared.end.RunEnd.{RunEnd}
use Rattle.ac_run.specs.declared.end.RunEnd.TheVariants as end
use Rattle.ac_run.specs.declared.inbox.Inbox.{Inbox}
use Rattle.ac_run.specs.declared.inbox.Inbox.TheVariants.{Open, Broken, Closed}
use Rattle.ac_run.specs.declared.inbox.Incoming.TheVariants as incoming

-- something may come
pub some_may_come : (inbox : Inbox) (told : Bool) (left : Bytes) → (rest : Bytes) × MayCome inbox told left rest
some_may_come Open told left = (left, λ t. refl)
some_may_come Broken told left = (left, λ t. refl)
some_may_come Closed told left = (left, tt)

-- where the same is left, the same may come
pub still_comes : (inbox : Inbox) (told : Bool) (left now rest : Bytes) → (IsTrue told → now ≡ left) → MayCome inbox told now rest → MayCome inbox told left rest
still_comes Open told left now rest same comes = λ t. sym (same t) ∙ comes t
still_comes Broken told left now rest same comes = λ t. sym (same t) ∙ comes t
still_comes Closed told left now rest same comes = tt

-- where the end has come and nothing is read, nothing is left still
pub none_still : (told : Bool) (inbox : Inbox) (left now : Bytes) → (IsTrue told → now ≡ left) → NoneLeft told inbox left → NoneLeft told inbox now
none_still told Open left now same none = tt
none_still told Broken left now same none = tt
none_still told Closed left now same none = λ t. same t ∙ none t

-- what comes before this, where this frame has come, no frame, or the end
before_frame : (told : Bool) (left now rest s : Bytes) → length s ≤ longest_frame → (IsTrue told → next_frame left ≡ Whole s now) → (IsTrue told → now ≡ rest) → (before : Bytes) × (IsTrue told → left ≡ before) × (next_frame before ≡ Whole s rest)
before_frame true left now rest s short is comes = (left, λ t. refl, is refl ∙ ap (λ (l : Bytes). Whole s l) (comes refl))
before_frame false left now rest s short is comes = (frame_of s ++ rest, λ t. absurd cc, frame_back s rest short)

before_bad : (told : Bool) (left now rest : Bytes) (n got : ℕ) → IsBad n got → (IsTrue told → (next_frame left ≡ Bad n got) × (now ≡ drop got left)) → (IsTrue told → now ≡ rest) → (before : Bytes) × (IsTrue told → left ≡ before) × (next_frame before ≡ Bad n got) × (IsTrue told → rest ≡ drop got before)
before_bad true left now rest n got bad is comes = (left, λ t. refl, (is refl).0, λ t. sym (comes refl) ∙ (is refl).1)
before_bad false left now rest n got bad is comes = (bad.bytes, λ t. absurd cc, bad.is, λ t. absurd cc)

module _ (told : Bool) (left now : Bytes) where
  pub hears_frame : (text : Text) → length text.0 ≤ longest_frame → (IsTrue told → next_frame left ≡ Whole text.0 now) → Comes told Open left Open now (Heard told (incoming.Frame text) Open)
  hears_frame text short is rest comes =
      let b = before_frame told left now rest text.0 short is comes in
      (b.0, b.1, λ input e. (rest, ap next_frame e ∙ b.2, refl))

  pub hears_bad : (n got : ℕ) → IsBad n got → (IsTrue told → (next_frame left ≡ Bad n got) × (now ≡ drop got left)) → Comes told Open left Broken now (Heard told incoming.Bad Broken)
  hears_bad n got bad is rest comes =
      let b = before_bad told left now rest n got bad is comes in
      (b.0, b.1, λ input e. let f = ap next_frame e ∙ b.2 in (n, got, f, (n, got, f, λ t. b.3 t ∙ ap (drop got) (sym e))))

  -- once there was none, there is none
  pub hears_no_more : Comes told Broken left Broken left (Heard told incoming.Bad Broken)
  hears_no_more rest comes = (rest, comes, λ input is. (is.0, is.1, is.2, is))

  -- some bytes are gone
  pub hears_failed : (IsTrue told → (taken : Bytes) × (left ≡ taken ++ now)) → Comes told Open left Open now (Heard told incoming.Failed Open)
  hears_failed lost rest comes = (left, λ t. refl, λ input e t. let l = lost t in (l.0, e ∙ l.1 ∙ ap (λ (more : Bytes). l.0 ++ more) (comes t)))

  -- nothing is known of what comes later
  pub hears_nothing : (P : Bytes → Bytes → Type 0) → ((rest input : Bytes) → P rest input) → Comes told Open left Open now P
  hears_nothing P p rest comes = (left, λ t. refl, λ input e. p rest input)

-- what is made of what comes
pub hears_with : (told : Bool) (old : Inbox) (left : Bytes) (new : Inbox) (now : Bytes) (P Q : Bytes → Bytes → Type 0) → ((rest input : Bytes) → P rest input → Q rest input) → Comes told old left new now P → Comes told old left new now Q
hears_with told old left new now P Q f h rest comes =
    let b = h rest comes in
    (b.0, b.1, λ input is. f rest input (b.2 input is))

-- what a machine gets of what was heard
module _ (told : Bool) (m n : MachineSeen) (inbox : Inbox) (rest input : Bytes) where
  pub gets_frame : (s left : Bytes) → next_frame input ≡ Whole s left → IsLeft told inbox rest left → (x : Result (Unit {0}) Memory) (r : Option RunEnd) → OnOk x ((m.lost ≡ false) × (n.lost ≡ false) × (standing n ≡ resumed (resumed_text s) (standing m))) → OnOk x (r ≡ None) → OnErr x (r ≡ Some end.Memory) → Received told inbox rest input m n r
  gets_frame s left e l (Ok v) r got ok err = subst (Received told inbox rest input m n) (sym ok) (subst (HasGotFrame told inbox rest input m n) (sym e) ((got.1, got.2), l))
  gets_frame s left e l (Err v) r got ok err = subst (Received told inbox rest input m n) (sym err) tt

  -- an exception is the answer, or memory ran out
  gets_raised : (f : Frame) (s : Streams) → next_frame input ≡ f → (e : Exn) (r : Option RunEnd) → Served false (with_raise (exn_number e) (exn_text e)) [] m n s s r → (r ≡ Some end.WriteFault → ⊥)
      → (Served false (with_raise (exn_number e) (exn_text e)) [] m n s s None → HasGotFrame told inbox rest input m n f) → Received told inbox rest input m n r
  gets_raised f s is e None got never has = subst (HasGotFrame told inbox rest input m n) (sym is) (has got)
  gets_raised f s is e (Some end.Memory) got never has = tt
  gets_raised f s is e (Some end.WriteFault) got never has = absurd (never refl)
  gets_raised f s is e (Some end.ReadFault) got never has = absurd got
  gets_raised f s is e (Some end.Finished) got never has = absurd got
  gets_raised f s is e (Some (end.Uncaught x)) got never has = absurd got
  gets_raised f s is e (Some (end.Spent k)) got never has = absurd got

  pub gets_end : (s : Streams) → next_frame input ≡ AtEnd → IsLeft told inbox rest input → (e : Exn) → exn_of e ≡ end_of_file_exn → (r : Option RunEnd) → Served false (with_raise (exn_number e) (exn_text e)) [] m n s s r → (r ≡ Some end.WriteFault → ⊥) → Received told inbox rest input m n r
  gets_end s is l e exn r got never = gets_raised AtEnd s is e r got never (λ g. ((subst (λ x. Served false (with_raise x.number x.text) [] m n s s None) exn g).0, l))

  pub gets_bad : (s : Streams) (k j : ℕ) → next_frame input ≡ Bad k j → IsLeft told inbox rest input → (x : Result Exn Memory) → IfOk x (λ e. exn_of e ≡ bad_frame) → (r : Option RunEnd) → ((e : Exn) → x ≡ Ok e → Served false (with_raise (exn_number e) (exn_text e)) [] m n s s r) → (IsErr x → r ≡ Some end.Memory) → (r ≡ Some end.WriteFault → ⊥) → Received told inbox rest input m n r
  gets_bad s k j is l (Ok e) exn r got fault never = gets_raised (Bad k j) s is e r (got e refl) never (λ g. ((subst (λ x. Served false (with_raise x.number x.text) [] m n s s None) exn g).0, l))
  gets_bad s k j is l (Err v) exn r got fault never = subst (Received told inbox rest input m n) (sym (fault refl)) tt
