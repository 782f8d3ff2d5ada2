-- How a pipe comes to its end.
use Rattle.std.proofs.Common.{◌≡◌, ◌⊎◌, inl, inr, ◌&&◌, ℕ, ℤ, Bool, IsTrue, List, [], ◌++◌, Option, Some, refl, sym, ap, subst}
use Rattle.ac_types.specs.Types.{Bytes}
use Rattle.ac_types.specs.ReadTypes.{typ_of}
use Rattle.ac_terms.specs.Read.{environment_of, expr_of}
use Rattle.ac_outside.specs.Outside.{Rose}
use Rattle.ac_rules.specs.declared.loaded.Loaded.{Loaded}
use Rattle.ac_meaning.specs.Laws.{IsTypedProgram}
use Rattle.ac_load_rules.specs.Accepting.{Shelved}
use Rattle.ac_load.specs.Loading.{Loads, Rejects}
use Rattle.ac_load.specs.Kinds.{Says}
use Rattle.ac_load.specs.declared.kind.Kind.{Kind}
use Rattle.ac_load.specs.declared.kind.Kind.TheVariants as kind
use Rattle.ac_batch.proofs.Saying.{said}
use Rattle.ac_run.specs.Sessions.{Streams, with_writes, StopsIn, StopsBehind}
use Rattle.ac_run.specs.declared.end.RunEnd.{RunEnd}
use Rattle.ac_run.specs.declared.end.RunEnd.TheVariants as receiver
use Rattle.ac_spawn.specs.declared.spawner.Ended.{Ended}
use Rattle.ac_pipe.specs.PipeEnds.{HasNotRun, IfRan, IsReadFault}
use Rattle.ac_pipe.specs.declared.end.PipeEnd.{PipeEnd}
use Rattle.ac_pipe.specs.declared.end.PipeEnd.TheVariants as pipe
use Rattle.acute_words.specs.Commands.{ProgramFiles}
use Rattle.acute_files.specs.Files.{Reading, IsTextOf}
use Rattle.acute_files.specs.ProgramTexts.{IsShelfBy, HasBadLine, ReadsFail}
use Rattle.acute_files.specs.declared.shelf.TextsFault.{TextsFault}
use Rattle.acute_files.specs.declared.shelf.TextsFault.TheVariants as fault
use Rattle.acute_answers.specs.declared.status.Status.{Status}
use Rattle.acute_answers.specs.declared.status.TheConstants.Status.{FINISHED, REFUSED, UNCAUGHT, SPENT, OUT_OF_MEMORY, READ_FAULT}
use Rattle.ac_meaning.specs.ReadExn.{exn_of}
use Rattle.acute_answers.specs.Lines.{refusal_line, uncaught_line, spent_line}
use Rattle.acute_answers.specs.Meaning.{refusal, refused}
use Rattle.acute_pipe.specs.Receivers.{HasReceivedBy, LeavesSo}
use Rattle.acute_pipe.specs.Senders.{sender_line, status_in}
use Rattle.acute_pipe.specs.Spawnings.{Spawning, NoStart, HasEnded, ChildFailed, PipesSo}
use Rattle.acute_pipe.proofs.ReceivedLaws.{meant_by, stops_somewhere}
use Rattle.acute_top.specs.PipeEndings.{HasSent, PipeEnded, SaidWithSender, console_before, console_after, refused_receiver, bad_pipe_list, unread_receiver, no_memory_to_start, not_started, has_piped, unread_child, unread_rest, unprinted_pipe, no_memory_in_pipe}
use Rattle.acute_top.specs.Streams.{Writing, AllWritten, read_line, memory_line}
use Rattle.acute_top.specs.Saying.{Said, SaidIfAny}
use Rattle.acute_top.specs.inner.Delivered.{SaysUnread}
use Rattle.acute_top.specs.inner.Piped.{SaidOfEnd, SaysReceiver, SaysRan, says_unread, says_receiver, SaysPiped}
use Rattle.acute_top.proofs.EndingLaws.{Still, still_whole}

module _ (words : List Bytes) (p : ProgramFiles) (steps : ℕ) (files : Bytes → Reading) (c : Spawning) (output errors : Writing) where
  -- a receiver that isn't started, from what its files say
  abbrev sent_before : (shelf : List Shelved) → IsShelfBy files p.shelf shelf → (text : Bytes) → IsTextOf (files p.file) text → HasSent words p steps files c output errors
  sent_before shelf is_shelf text is_text = record { shelf = shelf; is_shelf = is_shelf; text = text; is_text = is_text; input = c.old.left; is_input = λ told. refl }

  -- memory ran out in front of the start
  pub end_unstarted : Still output → NoStart c → (end : Status) → Said errors memory_line OUT_OF_MEMORY end → PipeEnded words p steps files c output errors end
  end_unstarted still none end s = no_memory_to_start (still_whole output still) none s

  -- the texts weren't read
  pub end_unsent : Still output → NoStart c → (f : TextsFault) → ((n : ℕ) → f ≡ fault.Line n → HasBadLine files p.shelf n) → (f ≡ fault.Failed → ReadsFail files p.file p.shelf) → (end : Status) → SaysUnread f errors end → PipeEnded words p steps files c output errors end
  end_unsent still none (fault.Line n) bad failed end (inl s) = bad_pipe_list n (bad n refl) (still_whole output still) none s
  end_unsent still none (fault.Line n) bad failed end (inr s) = end_unstarted still none end s
  end_unsent still none fault.Failed bad failed end s = unread_receiver (failed refl) (still_whole output still) none s
  end_unsent still none fault.Memory bad failed end s = end_unstarted still none end s

  module _ (shelf : List Shelved) (is_shelf : IsShelfBy files p.shelf shelf) (text : Bytes) (is_text : IsTextOf (files p.file) text) where
    -- the receiver is refused
    pub end_refused : Still output → NoStart c → (part : ℕ) (k : Kind) → Says k (Rejects text shelf part k) → (end : Status) → (Said errors (refusal_line part k) REFUSED end × (k ≡ kind.Memory → ⊥)) ⊎ Said errors memory_line OUT_OF_MEMORY end → PipeEnded words p steps files c output errors end
    end_refused still none part k h end (inl s) =
        refused_receiver (sent_before shelf is_shelf text is_text) (refusal REFUSED (refusal_line part k)) (λ mode. refused part k (said k (Rejects text shelf part k) s.1 h)) refl (still_whole output still) none s.0
    end_refused still none part k h end (inr s) = end_unstarted still none end s

    -- the receiver and its sender have run
    module _ (e : RunEnd) (r : HasReceivedBy (c.told && output.told) c.old.left text shelf steps e output.old output.new) (end : Status) where
      abbrev sent : HasSent words p steps files c output errors
      sent = record { shelf = shelf; is_shelf = is_shelf; text = text; is_text = is_text; input = r.input; is_input = r.gets }

      abbrev Left : RunEnd → Type 0
      Left f = LeavesSo text shelf steps r.input f r.answer (c.told && output.told) (console_before words p steps files c output errors) (console_after words p steps files c output errors)

      stopped : (f : RunEnd) → Left f → StopsIn (c.told && output.told) r.answer.writes (console_before words p steps files c output errors) (console_after words p steps files c output errors) ⊎ StopsBehind (c.told && output.told) r.answer.writes (console_before words p steps files c output errors) (console_after words p steps files c output errors)
      stopped f left = stops_somewhere text shelf steps r.input f r.answer (c.told && output.told) _ _ left

      -- a read has failed
      unread_by : (f : RunEnd) → Left f → (sender : Option ℤ) → HasEnded c words sender → ChildFailed c → SaidWithSender errors read_line sender READ_FAULT end → PipeEnded words p steps files c output errors end
      unread_by receiver.Finished left sender ended failed s = unread_rest sent r.answer sender r.means r.runs ended failed (stopped receiver.Finished left) s
      unread_by (receiver.Uncaught x) left sender ended failed s = unread_rest sent r.answer sender r.means r.runs ended failed (stopped (receiver.Uncaught x) left) s
      unread_by (receiver.Spent n) left sender ended failed s = unread_rest sent r.answer sender r.means r.runs ended failed (stopped (receiver.Spent n) left) s
      unread_by receiver.ReadFault left sender ended failed s = unread_child sent r.answer sender r.means r.runs ended failed left.0 left.1 s
      unread_by receiver.WriteFault left sender ended failed s = unread_rest sent r.answer sender r.means r.runs ended failed (stopped receiver.WriteFault left) s
      unread_by receiver.Memory left sender ended failed s = unread_rest sent r.answer sender r.means r.runs ended failed (stopped receiver.Memory left) s

      -- the line is that of the meaning
      said_as : (line : Bytes) (status : Status) (behind : Bytes) → r.answer.status ≡ status → r.answer.line ≡ line → SaidIfAny errors (line ++ behind) status end → SaidIfAny errors (r.answer.line ++ behind) r.answer.status end
      said_as line status behind status_is line_is s =
          subst (λ (l : Bytes). SaidIfAny errors (l ++ behind) r.answer.status end) (sym line_is) (subst (λ (x : Status). SaidIfAny errors (line ++ behind) x end) (sym status_is) s)

      abbrev AllPrinted : Type 0
      AllPrinted = IsTrue (c.told && output.told) → console_after words p steps files c output errors ≡ with_writes r.answer.writes (console_before words p steps files c output errors)

      -- the receiver has come to its end
      ended_by : (f : RunEnd) → Left f → (line : Bytes) (status : Status) (sender : ℤ) → r.answer.status ≡ status → r.answer.line ≡ line → AllPrinted → HasEnded c words (Some sender) → SaidOfEnd errors line (Some sender) status end → PipeEnded words p steps files c output errors end
      ended_by f left line status sender status_is line_is all ended (inl s) = has_piped sent r.answer sender r.means r.runs ended (λ told. ap (λ (x : Streams). x.console) (all told)) (said_as line status (sender_line (Some sender)) status_is line_is s)
      ended_by f left line status sender status_is line_is all ended (inr s) = no_memory_in_pipe sent r.answer sender r.means r.runs ended (stopped f left) s

      -- no read has failed but in its run
      received_by : (f : RunEnd) → Left f → (sender : ℤ) → HasEnded c words (Some sender) → (f ≡ receiver.WriteFault → Rose output.before output.after) → (f ≡ receiver.ReadFault → ChildFailed c) → SaysReceiver f (Some sender) errors end → PipeEnded words p steps files c output errors end
      received_by receiver.Finished left sender ended writes reads s = ended_by receiver.Finished left [] FINISHED sender left.0 left.1.0 left.1.1 ended s
      received_by (receiver.Uncaught x) left sender ended writes reads s = ended_by (receiver.Uncaught x) left (uncaught_line (exn_of x)) UNCAUGHT sender left.0 left.1.0 left.1.1 ended s
      received_by (receiver.Spent n) left sender ended writes reads s = ended_by (receiver.Spent n) left (spent_line n) SPENT sender left.0 left.1.0 left.1.1 ended s
      received_by receiver.ReadFault left sender ended writes reads s = unread_by receiver.ReadFault left (Some sender) ended (reads refl) s
      received_by receiver.WriteFault left sender ended writes reads s = unprinted_pipe sent r.answer sender r.means r.runs ended (writes refl) left s
      received_by receiver.Memory left sender ended writes reads s = no_memory_in_pipe sent r.answer sender r.means r.runs ended left s

      ran_by : (rest_failed : Bool) (sender : Ended) → HasEnded c words (status_in sender) → (IsReadFault e rest_failed sender → ChildFailed c) → (e ≡ receiver.WriteFault → Rose output.before output.after) → SaysRan e rest_failed sender errors end → PipeEnded words p steps files c output errors end
      ran_by rest_failed sender ended reads writes (says_unread fault s) = unread_by e r.leaves (status_in sender) ended (reads fault) s
      ran_by rest_failed sender ended reads writes (says_receiver n is s) = received_by e r.leaves n (subst (HasEnded c words) is ended) writes (λ read. reads (inl read)) s

    -- a pipe of a program that is loaded
    pub end_piped : (loaded : Loaded) → Loads text shelf (environment_of loaded.env) (expr_of loaded.main) (typ_of loaded.ty) → IsTypedProgram (environment_of loaded.env) (expr_of loaded.main) (typ_of loaded.ty) → (e : PipeEnd) → PipesSo c words e → (HasNotRun e → AllWritten output [])
        → IfRan e (λ r rest_failed sender. HasReceivedBy (c.told && output.told) c.old.left text shelf steps r output.old output.new) → IfRan e (λ r rest_failed sender. r ≡ receiver.WriteFault → Rose output.before output.after) → (end : Status) → SaysPiped e errors end → PipeEnded words p steps files c output errors end
    end_piped loaded accepted typed pipe.Memory so none ran writes end s = no_memory_to_start (none tt) so s
    end_piped loaded accepted typed pipe.StartFault so none ran writes end s =
        let a = meant_by text shelf steps loaded accepted typed c.old.left in
        not_started (sent_before shelf is_shelf text is_text) a.0 a.1.0 a.1.1 so (none tt) s
    end_piped loaded accepted typed (pipe.Ran e rest_failed sender) so none ran writes end s = ran_by e ran end rest_failed sender so.0 so.1 writes s
