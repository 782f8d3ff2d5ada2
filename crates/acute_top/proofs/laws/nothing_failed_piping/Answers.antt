use Rattle.std.proofs.Common.{◌≡◌, ◌&&◌, inl, inr, ℕ, ℤ, Bool, true, false, IsTrue, List, [], ◌++◌, Option, Some, refl, sym, ◌∙◌, ap, subst}
use Rattle.ac_types.specs.Types.{Bytes}
use Rattle.ac_outside.specs.Outside.{Rose}
use Rattle.acute_words.specs.Commands.{ProgramFiles}
use Rattle.ac_load_rules.specs.Accepting.{Shelved}
use Rattle.acute_files.specs.Files.{IsTextOf}
use Rattle.acute_files.specs.ProgramTexts.{IsShelfBy, ReadsFail}
use Rattle.ac_rules.specs.Views.{Mode}
use Rattle.ac_meaning.specs.Writes.{Write, Console, written}
use Rattle.acute_answers.specs.declared.status.Status.{Status}
use Rattle.acute_answers.specs.declared.status.TheConstants.Status.{OUT_OF_MEMORY}
use Rattle.acute_answers.specs.Meaning.{CommandAnswer, Means, refused, finished, uncaught, spent}
use Rattle.acute_answers.proofs.TextLaws.{one_in}
use Rattle.acute_pipe.specs.Senders.{started_words, sender_line}
use Rattle.acute_pipe.specs.Spawnings.{Spawning, StartFailed, ChildFailed}
use Rattle.acute_top.specs.Handed.{Handed}
use Rattle.acute_top.specs.Streams.{memory_line}
use Rattle.acute_top.specs.PipeEndings.{HasSent, GivesReceived, SaidWithSender, PipeEnded, refused_receiver, bad_pipe_list, unread_receiver, no_memory_to_start, not_started, has_piped, unread_child, unread_rest, unprinted_pipe, no_memory_in_pipe}
use Rattle.acute_top.proofs.FileLaws.{one_text, one_shelf, shelf_or_bad}
use Rattle.acute_top.proofs.SaidLaws.{said_wholly, said_if_any_wholly}
use Rattle.acute_top.proofs.laws.nothing_failed_piping.Goals as goal

-- what doesn't run prints nothing
quiet : {mode : Mode} {text : Bytes} {shelf : List Shelved} {steps : ℕ} {input : Bytes} {a : CommandAnswer} → Means mode text shelf steps input false a → a.runs ≡ false → a.writes ≡ []
quiet (refused part k r) runs = refl
quiet (finished E e T v z l h) runs = absurd cc
quiet (uncaught E e T x z l h) runs = absurd cc
quiet (spent E e T z l h) runs = absurd cc

told_output : (a b : Bool) → IsTrue (a && b) → IsTrue b
told_output true b h = h
told_output false b h = absurd cc

module _ (words : List Bytes) (p : ProgramFiles) (steps : ℕ) (o : Handed) (c : Spawning) {end : Status} (told : (name : Bytes) → IsTrue (o.files name).told) (known : IsTrue (c.told && o.output.told)) (output : IsTrue o.output.told)
    (f : ReadsFail o.files p.file p.shelf → ⊥) (i : StartFailed c → ⊥) (k : ChildFailed c → ⊥) (w : Rose o.output.before o.output.after → ⊥) (e : Rose o.errors.before o.errors.after → ⊥) (m : end ≡ OUT_OF_MEMORY → ⊥)
    (shelf : List Shelved) (text : Bytes) (is_shelf : IsShelfBy o.files p.shelf shelf) (is_text : IsTextOf (o.files p.file) text) (mode : Mode) (a : CommandAnswer) (means : Means mode text shelf steps c.old.left false a) where
  abbrev IsDone : Type 0
  IsDone = (end ≡ a.status) × (o.output.new ≡ o.output.old ++ written Console a.writes)

  -- what is given is what the text means
  as_meant : (r : HasSent words p steps o.files c o.output o.errors) (b : CommandAnswer) → GivesReceived words p steps o.files c o.output o.errors r b → (b.status ≡ a.status) × (b.writes ≡ a.writes)
  as_meant r b g =
      let same : r.text ≡ text = one_text (o.files p.file) (told p.file) r.text text r.is_text is_text in
      let one_of : r.shelf ≡ shelf = one_shelf o.files told r.is_shelf is_shelf in
      let first = subst (λ (l : Bytes). Means mode l r.shelf steps r.input false b) same (g mode) in
      let second = subst (λ (s : List Shelved). Means mode text s steps r.input false b) one_of first in
      one_in mode (subst (λ (l : Bytes). Means mode text shelf steps l false b) (sym (r.is_input known)) second) means

  printed : {xs ys : List Write} → xs ≡ ys → o.output.new ≡ o.output.old ++ written Console xs → o.output.new ≡ o.output.old ++ written Console ys
  printed same is = is ∙ ap (λ (zs : List Write). o.output.old ++ written Console zs) same

  lost : (sender : Option ℤ) → SaidWithSender o.errors memory_line sender OUT_OF_MEMORY end → IsDone
  lost sender (inl s) = absurd (m (said_wholly m o.errors e refl s))
  lost sender (inr s) = absurd (m (said_wholly m o.errors e refl s))

  complete : PipeEnded words p steps o.files c o.output o.errors end → IsDone
  complete (refused_receiver r b g runs x none s) =
      let is = as_meant r b g in
      (said_wholly m o.errors e refl s ∙ is.0, printed is.1 (subst (λ (zs : List Write). o.output.new ≡ o.output.old ++ written Console zs) (sym (quiet (g mode) runs)) (x output)))
  complete (bad_pipe_list n bad x none s) = absurd (shelf_or_bad o.files told is_shelf bad)
  complete (unread_receiver fails x none s) = absurd (f fails)
  complete (no_memory_to_start x none s) = absurd (m (said_wholly m o.errors e refl s))
  complete (not_started r b g runs h x s) = absurd (i h.rose)
  complete (has_piped r b sender g runs h x s) =
      let is = as_meant r b g in
      (said_if_any_wholly m o.errors e (b.line ++ sender_line (Some sender)) b.status s ∙ is.0, printed is.1 (x known))
  complete (unread_child r b sender g runs h failed x stood s) = absurd (k failed)
  complete (unread_rest r b sender g runs h failed x s) = absurd (k failed)
  complete (unprinted_pipe r b sender g runs h rose x s) = absurd (w rose)
  complete (no_memory_in_pipe r b sender g runs h x s) = lost (Some sender) s

pub returns : goal.returns
returns c = λ tool sender p steps n o s status ended told known f i k w e m shelf text is_shelf is_text mode a means.
    complete (started_words tool sender p.shelf n) p steps o s told known (told_output s.told o.output.told known) f i k w e m shelf text is_shelf is_text mode a means ended
