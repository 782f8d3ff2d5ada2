-- How an answer, or what is said in its place, comes to the end of a request.
use Rattle.std.proofs.Common.{◌≡◌, inl, inr, ℕ, [], ◌∷◌, Option, IfOk, refl, subst}
use Rattle.std.specs.Prelude.{Result}
use Rattle.ac_types.specs.Types.{Bytes}
use Rattle.ac_types.specs.declared.memory.Memory.{Memory}
use Rattle.acute_words.specs.Commands.{ProgramFiles, Request}
use Rattle.acute_files.specs.Files.{Reading}
use Rattle.acute_files.specs.ManyTexts.{TextsFail, of_shelf_list, of_shelf_text, of_text}
use Rattle.acute_files.specs.ProgramTexts.{HasBadLine, ReadsFail, of_list, of_listed, of_program}
use Rattle.acute_files.specs.declared.shelf.TextsFault.{TextsFault}
use Rattle.acute_files.specs.declared.shelf.TextsFault.TheVariants as fault
use Rattle.acute_answers.specs.declared.answer.Answer.{Answer}
use Rattle.acute_answers.specs.declared.showing.Showing.{Showing}
use Rattle.acute_answers.specs.declared.showing.Showing.TheVariants.{Names, Code}
use Rattle.acute_answers.specs.declared.status.Status.{Status}
use Rattle.acute_answers.specs.Answers.{ShownAnswer, answer_of}
use Rattle.acute_top.specs.Streams.{Writing}
use Rattle.acute_top.specs.Requests.{list_named, IsUnreadable}
use Rattle.acute_top.specs.Giving.{Gives, ShowsFile}
use Rattle.acute_top.specs.Endings.{AnswerEnded, has_printed, no_shelf, unread, unprinted, no_memory_to_find, no_memory_to_print}
use Rattle.acute_top.specs.inner.Asked.{showing}
use Rattle.acute_top.specs.inner.Delivered.{Delivered, whole, print_failed, lost_in_print, DeliveredIfFound, delivered, not_found, SaysUnread}
use Rattle.acute_top.proofs.EndingLaws.{Still, still_whole}

module _ (r : Request) (files : Bytes → Reading) (output errors : Writing) where
  ended_by : (a : Answer) → Gives files r (answer_of a) → (end : Status) → Delivered a output errors end → AnswerEnded r files output errors end
  ended_by a g end (whole w s) = has_printed (answer_of a) g w s
  ended_by a g end (print_failed some rose p s) = unprinted (answer_of a) g some rose p s
  ended_by a g end (lost_in_print p s) = no_memory_to_print (answer_of a) g p s

  -- the answer that was found is given by the request
  pub answered : (found : Result Answer Memory) → IfOk found (λ a. Gives files r (answer_of a)) → (end : Status) → DeliveredIfFound found output errors end → AnswerEnded r files output errors end
  answered found gives end (delivered a is d) = ended_by a (subst (λ (f : Result Answer Memory). IfOk f (λ a. Gives files r (answer_of a))) is gives) end d
  answered found gives end (not_found w s) = no_memory_to_find w s

  -- the texts weren't read
  pub not_read : Still output → (f : TextsFault) → ((n : ℕ) → f ≡ fault.Line n → HasBadLine files (list_named r) n) → (f ≡ fault.Failed → IsUnreadable files r) → (end : Status) → SaysUnread f errors end → AnswerEnded r files output errors end
  not_read still (fault.Line n) bad failed end (inl s) = no_shelf n (bad n refl) (still_whole output still) s
  not_read still (fault.Line n) bad failed end (inr s) = no_memory_to_find (still_whole output still) s
  not_read still fault.Failed bad failed end s = unread (failed refl) (still_whole output still) s
  not_read still fault.Memory bad failed end s = no_memory_to_find (still_whole output still) s

-- a program's text is the text of one file
pub one_fails : (files : Bytes → Reading) (file : Bytes) {list : Option Bytes} → ReadsFail files file list → TextsFail files (file ∷ []) list
one_fails files file (of_list rose) = of_shelf_list rose
one_fails files file (of_listed before after x says rose) = of_shelf_text before after x says rose
one_fails files file (of_program shelf is rose) = of_text shelf [] [] file is refl rose

-- what is shown of a program's file
module _ (files : Bytes → Reading) (p : ProgramFiles) where
  pub gives_shown : (what : Showing) (a : ShownAnswer) → ShowsFile what files p a → Gives files (showing what p) a
  gives_shown Names a s = s
  gives_shown Code a s = s

  pub list_shown : (what : Showing) (n : ℕ) → HasBadLine files p.shelf n → HasBadLine files (list_named (showing what p)) n
  list_shown Names n bad = bad
  list_shown Code n bad = bad

  pub unread_shown : (what : Showing) → ReadsFail files p.file p.shelf → IsUnreadable files (showing what p)
  unread_shown Names fails = one_fails files p.file fails
  unread_shown Code fails = one_fails files p.file fails
