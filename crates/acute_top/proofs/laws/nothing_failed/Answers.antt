use Rattle.std.proofs.Common.{◌≡◌, ◌⊎◌, inl, inr, List, ℕ, IsTrue, Option, None, Some, is_some, refl, sym, ◌∙◌, subst}
use Rattle.ac_types.specs.Types.{Bytes}
use Rattle.ac_types.proofs.FirstLaws.{none≢some}
use Rattle.ac_outside.specs.Outside.{Rose}
use Rattle.acute_words.specs.Commands.{ChannelName, ProgramFiles, standard, file}
use Rattle.ac_load_rules.specs.Accepting.{Shelved}
use Rattle.acute_files.specs.Files.{IsTextOf}
use Rattle.acute_files.specs.ProgramTexts.{IsShelfBy, ReadsFail}
use Rattle.ac_rules.specs.Views.{Mode}
use Rattle.acute_answers.specs.declared.status.Status.{Status}
use Rattle.acute_answers.specs.declared.status.TheConstants.Status.{OUT_OF_MEMORY}
use Rattle.acute_top.specs.Channels.{GetsInput}
use Rattle.acute_top.specs.Handed.{Handed, is_told, input_of, InputFailed, OutputFailed, MakingFailed, behind_run}
use Rattle.acute_answers.specs.Meaning.{CommandAnswer, Means}
use Rattle.acute_top.specs.RunEndings.{HasRead, GivesStatus, RunEnded, is_refused, has_run, bad_list, unread_file, unmade_file, unread_input, unwritten, no_memory_yet, no_memory_making, no_memory_left}
use Rattle.acute_top.proofs.FileLaws.{one_text, one_shelf, shelf_or_bad}
use Rattle.acute_top.proofs.SaidLaws.{said_wholly, said_if_any_wholly}
use Rattle.acute_answers.proofs.TextLaws.{one_in}
use Rattle.acute_top.proofs.laws.nothing_failed.Goals as goal

-- the counts of errors are the same behind a run
behind : (to : Option ChannelName) (o : Handed) (mid : Bytes) → (Rose o.errors.before o.errors.after → ⊥) → Rose (behind_run to o mid).before (behind_run to o mid).after → ⊥
behind None o mid e = e
behind (Some standard) o mid e = e
behind (Some (file name)) o mid e = e

input_is : (from to : Option ChannelName) (o : Handed) (input : Bytes) → (from ≡ None) ⊎ IsTrue (is_told from to o) → GetsInput from (is_told from to o) (input_of from o) input → input ≡ input_of from o
input_is None to o input h g = g
input_is (Some channel) to o input (inl e) g = absurd (none≢some (sym e))
input_is (Some channel) to o input (inr t) g = sym (g t)

module _ (prog : ProgramFiles) (steps : ℕ) (from to : Option ChannelName) (o : Handed) {end : Status} (told : (name : Bytes) → IsTrue (o.files name).told) (known : (from ≡ None) ⊎ IsTrue (is_told from to o))
    (f : ReadsFail o.files prog.file prog.shelf → ⊥) (i : InputFailed from o → ⊥) (w : OutputFailed to o → ⊥) (k : MakingFailed to o → ⊥) (e : Rose o.errors.before o.errors.after → ⊥) (m : end ≡ OUT_OF_MEMORY → ⊥)
    (shelf : List Shelved) (text : Bytes) (is_shelf : IsShelfBy o.files prog.shelf shelf) (is_text : IsTextOf (o.files prog.file) text) (mode : Mode) (a : CommandAnswer) (means : Means mode text shelf steps (input_of from o) (is_some to) a) where
  -- what is given is what the text means
  as_meant : (r : HasRead prog steps from to o) (b : CommandAnswer) → GivesStatus prog steps from to o r b → b.status ≡ a.status
  as_meant r b g =
      let same : r.text ≡ text = one_text (o.files prog.file) (told prog.file) r.text text r.is_text is_text in
      let one_of : r.shelf ≡ shelf = one_shelf o.files told r.is_shelf is_shelf in
      let input : r.input ≡ input_of from o = input_is from to o r.input known r.is_input in
      let first = subst (λ (l : Bytes). Means mode l r.shelf steps r.input (is_some to) b) same (g mode) in
      let second = subst (λ (s : List Shelved). Means mode text s steps r.input (is_some to) b) one_of first in
      (one_in mode (subst (λ (l : Bytes). Means mode text shelf steps l (is_some to) b) input second) means).0

  complete : RunEnded prog steps from to o end → end ≡ a.status
  complete (is_refused r b g runs x u h s) = said_wholly m o.errors e refl s ∙ as_meant r b g
  complete (has_run r b mid g runs x left made s) = said_if_any_wholly m (behind_run to o mid) (behind to o mid e) b.line b.status s ∙ as_meant r b g
  complete (bad_list n bad x u h s) = absurd (shelf_or_bad o.files told is_shelf bad)
  complete (unread_file fails x u h s) = absurd (f fails)
  complete (unmade_file r b g runs rose x u h s) = absurd (k rose)
  complete (unread_input r b mid g runs made rose stops x left s) = absurd (i rose)
  complete (unwritten r b mid g runs made rose x left s) = absurd (w rose)
  complete (no_memory_yet x u h s) = absurd (m (said_wholly m o.errors e refl s))
  complete (no_memory_making r b g runs x u h s) = absurd (m (said_wholly m o.errors e refl s))
  complete (no_memory_left r b mid g runs made x s) = absurd (m (said_wholly m (behind_run to o mid) (behind to o mid e) refl s))

pub returns : goal.returns
returns c = λ prog steps from to o s status ended told known f i w k e m shelf text is_shelf is_text mode a means. complete prog steps from to o told known f i w k e m shelf text is_shelf is_text mode a means ended
