use Rattle.std.proofs.Common.{◌≡◌, ℕ, IsTrue, List, Option, Some, refl}
use Rattle.ac_types.specs.Types.{Bytes}
use Rattle.ac_outside.specs.Outside.{Rose}
use Rattle.acute_words.specs.Commands.{ChannelName, ProgramFiles, Request, run, names, code, make, check, chain, audit, pipe}
use Rattle.acute_files.specs.ManyTexts.{TextsFail}
use Rattle.acute_files.specs.ProgramTexts.{HasBadLine, ReadsFail}
use Rattle.acute_answers.specs.declared.status.Status.{Status}
use Rattle.acute_answers.specs.declared.status.TheConstants.Status.{OUT_OF_MEMORY, SHELF_REFUSED}
use Rattle.acute_answers.specs.Answers.{ShownAnswer}
use Rattle.acute_top.specs.Handed.{Handed}
use Rattle.acute_top.specs.Requests.{list_named, IsUnreadable}
use Rattle.acute_top.specs.Giving.{Gives}
use Rattle.acute_top.specs.RunEndings.{RunEnded, is_refused, has_run, bad_list, unread_file, unmade_file, unread_input, unwritten, no_memory_yet, no_memory_making, no_memory_left}
use Rattle.acute_top.specs.ChainEndings.{ChainEnded, has_chained, bad_chain_list, unread_chain, unprinted_chain, no_memory_to_chain, no_memory_in_chain}
use Rattle.acute_pipe.specs.Senders.{started_words}
use Rattle.acute_pipe.specs.Spawnings.{Spawning}
use Rattle.acute_top.specs.PipeEndings.{PipeEnded, refused_receiver, bad_pipe_list, unread_receiver, no_memory_to_start, not_started, has_piped, unread_child, unread_rest, unprinted_pipe, no_memory_in_pipe}
use Rattle.acute_top.specs.Endings.{AnswerEnded, has_printed, no_shelf, unread, unprinted, no_memory_to_find, no_memory_to_print, CallEnded}
use Rattle.acute_top.proofs.AnswerLaws.{one_fails}
use Rattle.acute_top.proofs.FileLaws.{shelf_or_bad}
use Rattle.acute_top.proofs.SaidLaws.{said_wholly}
use Rattle.acute_top.proofs.laws.bad_line_refused.Goals as goal

module _ (o : Handed) {end : Status} (told : (name : Bytes) → IsTrue (o.files name).told) (e : Rose o.errors.before o.errors.after → ⊥) (m : end ≡ OUT_OF_MEMORY → ⊥) (n : ℕ) where
  -- nothing is given then
  not_given : (r : Request) (a : ShownAnswer) → HasBadLine o.files (list_named r) n → Gives o.files r a → ⊥
  not_given (run prog steps from to) a bad g = g
  not_given (names prog) a bad g = shelf_or_bad o.files told g.is_shelf bad
  not_given (code prog) a bad g = shelf_or_bad o.files told g.is_shelf bad
  not_given (make seed modules runs) a bad g = elim bad [ ]
  not_given (check files list) a bad g = shelf_or_bad o.files told g.is_shelf bad
  not_given (chain programs list steps) a bad g = g
  not_given (audit prog channel type) a bad g = shelf_or_bad o.files told g.is_shelf bad
  not_given (pipe tool sender prog steps written) a bad g = g

  answering : (r : Request) → (IsUnreadable o.files r → ⊥) → HasBadLine o.files (list_named r) n → AnswerEnded r o.files o.output o.errors end → end ≡ SHELF_REFUSED
  answering r f bad (has_printed a g x s) = absurd (not_given r a bad g)
  answering r f bad (no_shelf k other x s) = said_wholly m o.errors e refl s
  answering r f bad (unread fails x s) = absurd (f fails)
  answering r f bad (unprinted a g some rose x s) = absurd (not_given r a bad g)
  answering r f bad (no_memory_to_find x s) = absurd (m (said_wholly m o.errors e refl s))
  answering r f bad (no_memory_to_print a g x s) = absurd (not_given r a bad g)

  running : (prog : ProgramFiles) (steps : ℕ) (from to : Option ChannelName) → (ReadsFail o.files prog.file prog.shelf → ⊥) → HasBadLine o.files prog.shelf n → RunEnded prog steps from to o end → end ≡ SHELF_REFUSED
  running prog steps from to f bad (is_refused r b g runs x u h s) = absurd (shelf_or_bad o.files told r.is_shelf bad)
  running prog steps from to f bad (has_run r b mid g runs x left made s) = absurd (shelf_or_bad o.files told r.is_shelf bad)
  running prog steps from to f bad (bad_list k other x u h s) = said_wholly m o.errors e refl s
  running prog steps from to f bad (unread_file fails x u h s) = absurd (f fails)
  running prog steps from to f bad (unmade_file r b g runs rose x u h s) = absurd (shelf_or_bad o.files told r.is_shelf bad)
  running prog steps from to f bad (unread_input r b mid g runs made rose stops x left s) = absurd (shelf_or_bad o.files told r.is_shelf bad)
  running prog steps from to f bad (unwritten r b mid g runs made rose x left s) = absurd (shelf_or_bad o.files told r.is_shelf bad)
  running prog steps from to f bad (no_memory_yet x u h s) = absurd (m (said_wholly m o.errors e refl s))
  running prog steps from to f bad (no_memory_making r b g runs x u h s) = absurd (shelf_or_bad o.files told r.is_shelf bad)
  running prog steps from to f bad (no_memory_left r b mid g runs made x s) = absurd (shelf_or_bad o.files told r.is_shelf bad)

  chaining : (programs : List Bytes) (list : Option Bytes) (steps : ℕ) → (TextsFail o.files programs list → ⊥) → HasBadLine o.files list n → ChainEnded programs list steps o.files o.output o.errors end → end ≡ SHELF_REFUSED
  chaining programs list steps f bad (has_chained a g x s) = absurd (shelf_or_bad o.files told g.is_shelf bad)
  chaining programs list steps f bad (bad_chain_list k other x s) = said_wholly m o.errors e refl s
  chaining programs list steps f bad (unread_chain fails x s) = absurd (f fails)
  chaining programs list steps f bad (unprinted_chain a g runs rose x s) = absurd (shelf_or_bad o.files told g.is_shelf bad)
  chaining programs list steps f bad (no_memory_to_chain x s) = absurd (m (said_wholly m o.errors e refl s))
  chaining programs list steps f bad (no_memory_in_chain a g x s) = absurd (shelf_or_bad o.files told g.is_shelf bad)

  piping : (words : List Bytes) (prog : ProgramFiles) (steps : ℕ) (c : Spawning) → (ReadsFail o.files prog.file prog.shelf → ⊥) → HasBadLine o.files prog.shelf n → PipeEnded words prog steps o.files c o.output o.errors end → end ≡ SHELF_REFUSED
  piping words prog steps c f bad (refused_receiver r b g runs x none s) = absurd (shelf_or_bad o.files told r.is_shelf bad)
  piping words prog steps c f bad (bad_pipe_list k other x none s) = said_wholly m o.errors e refl s
  piping words prog steps c f bad (unread_receiver fails x none s) = absurd (f fails)
  piping words prog steps c f bad (no_memory_to_start x none s) = absurd (m (said_wholly m o.errors e refl s))
  piping words prog steps c f bad (not_started r b g runs h x s) = absurd (shelf_or_bad o.files told r.is_shelf bad)
  piping words prog steps c f bad (has_piped r b sender g runs h x s) = absurd (shelf_or_bad o.files told r.is_shelf bad)
  piping words prog steps c f bad (unread_child r b sender g runs h failed x stood s) = absurd (shelf_or_bad o.files told r.is_shelf bad)
  piping words prog steps c f bad (unread_rest r b sender g runs h failed x s) = absurd (shelf_or_bad o.files told r.is_shelf bad)
  piping words prog steps c f bad (unprinted_pipe r b sender g runs h rose x s) = absurd (shelf_or_bad o.files told r.is_shelf bad)
  piping words prog steps c f bad (no_memory_in_pipe r b sender g runs h x s) = absurd (shelf_or_bad o.files told r.is_shelf bad)

  complete : (c : Spawning) (r : Request) → (IsUnreadable o.files r → ⊥) → HasBadLine o.files (list_named r) n → CallEnded (Some r) o c end → end ≡ SHELF_REFUSED
  complete c (run prog steps from to) f bad ended = running prog steps from to (λ fails. f (one_fails o.files prog.file fails)) bad ended
  complete c (names prog) f bad ended = answering (names prog) f bad ended
  complete c (code prog) f bad ended = answering (code prog) f bad ended
  complete c (make seed modules runs) f bad ended = elim bad [ ]
  complete c (check files list) f bad ended = answering (check files list) f bad ended
  complete c (chain programs list steps) f bad ended = chaining programs list steps f bad ended
  complete c (audit prog channel type) f bad ended = answering (audit prog channel type) f bad ended
  complete c (pipe tool sender prog steps written) f bad ended = piping (started_words tool sender prog.shelf written) prog steps c (λ fails. f (one_fails o.files prog.file fails)) bad ended

pub returns : goal.returns
returns c = λ r o s status ended told f e m n bad. complete o told e m n s r f bad ended
