use Rattle.std.proofs.Common.{◌≡◌, ℕ, List, Option, refl}
use Rattle.ac_types.specs.Types.{Bytes}
use Rattle.ac_outside.specs.Outside.{Rose}
use Rattle.acute_words.specs.Commands.{Request}
use Rattle.acute_files.specs.ManyTexts.{TextsFail}
use Rattle.acute_files.specs.ProgramTexts.{HasBadLine}
use Rattle.acute_answers.specs.declared.status.Status.{Status}
use Rattle.acute_answers.specs.declared.status.TheConstants.Status.{OUT_OF_MEMORY}
use Rattle.acute_answers.specs.Answers.{ShownAnswer}
use Rattle.acute_top.specs.Streams.{AllWritten}
use Rattle.acute_top.specs.Handed.{Handed}
use Rattle.acute_top.specs.Requests.{list_named, IsUnreadable}
use Rattle.acute_top.specs.Giving.{Gives}
use Rattle.acute_top.specs.ChainEndings.{ChainsFiles, ChainEnded, has_chained, bad_chain_list, unread_chain, unprinted_chain, no_memory_to_chain, no_memory_in_chain}
use Rattle.acute_top.specs.Endings.{AnswerEnded, has_printed, no_shelf, unread, unprinted, no_memory_to_find, no_memory_to_print}
use Rattle.acute_top.proofs.SaidLaws.{said_wholly, said_if_any_wholly, line_if_any_whole}
use Rattle.acute_top.proofs.laws.nothing_failed_printing.Goals as goal

-- the status is that of an answer, which is printed, and its line is written
abbrev IsDone : ShownAnswer → Handed → Status → Type 0
IsDone a o end = (end ≡ a.status) × (AllWritten o.output a.printed × AllWritten o.errors a.line)

module _ (r : Request) (o : Handed) {end : Status} (b : (n : ℕ) → HasBadLine o.files (list_named r) n → ⊥) (f : IsUnreadable o.files r → ⊥) (w : Rose o.output.before o.output.after → ⊥) (e : Rose o.errors.before o.errors.after → ⊥) (m : end ≡ OUT_OF_MEMORY → ⊥) where
  complete : AnswerEnded r o.files o.output o.errors end → (a : ShownAnswer) × (Gives o.files r a × IsDone a o end)
  complete (has_printed a g x s) = (a, (g, (said_if_any_wholly m o.errors e a.line a.status s, (x, line_if_any_whole m o.errors e a.line a.status s))))
  complete (no_shelf n bad x s) = absurd (b n bad)
  complete (unread fails x s) = absurd (f fails)
  complete (unprinted a g some rose x s) = absurd (w rose)
  complete (no_memory_to_find x s) = absurd (m (said_wholly m o.errors e refl s))
  complete (no_memory_to_print a g x s) = absurd (m (said_wholly m o.errors e refl s))

module _ (programs : List Bytes) (list : Option Bytes) (steps : ℕ) (o : Handed) {end : Status} (b : (n : ℕ) → HasBadLine o.files list n → ⊥) (f : TextsFail o.files programs list → ⊥) (w : Rose o.output.before o.output.after → ⊥) (e : Rose o.errors.before o.errors.after → ⊥) (m : end ≡ OUT_OF_MEMORY → ⊥) where
  chained : ChainEnded programs list steps o.files o.output o.errors end → (a : ShownAnswer) × (ChainsFiles o.files programs list steps o.output.told a × IsDone a o end)
  chained (has_chained a g x s) = (a, (g, (said_if_any_wholly m o.errors e a.line a.status s, (x, line_if_any_whole m o.errors e a.line a.status s))))
  chained (bad_chain_list n bad x s) = absurd (b n bad)
  chained (unread_chain fails x s) = absurd (f fails)
  chained (unprinted_chain a g runs rose x s) = absurd (w rose)
  chained (no_memory_to_chain x s) = absurd (m (said_wholly m o.errors e refl s))
  chained (no_memory_in_chain a g x s) = absurd (m (said_wholly m o.errors e refl s))

pub returns-clause-found : goal.returns-clause-found
returns-clause-found c = λ r o status ended b f w e m. complete r o b f w e m ended

pub returns-clause-chained : goal.returns-clause-chained
returns-clause-chained c = λ programs list steps o s status ended b f w e m. chained programs list steps o b f w e m ended
