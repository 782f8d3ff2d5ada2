-- How the parts of a call come together to its end.
use Rattle.std.proofs.Common.{◌≡◌, ◌⊎◌, inl, inr, ℕ, Bool, true, IsTrue, List, [], ◌∷◌, Option, Some, None, refl, sym, ◌∙◌}
use Rattle.std.proofs.lemmas.List.{append-nil}
use Rattle.ac_types.specs.Types.{Bytes}
use Rattle.acute_words.specs.Commands.{ChannelName, ProgramFiles, Request, run, names, code, make, check, chain, audit, pipe}
use Rattle.acute_files.specs.ProgramTexts.{HasBadLine, ReadsFail}
use Rattle.acute_files.specs.declared.shelf.TextsFault.{TextsFault}
use Rattle.acute_files.specs.declared.shelf.TextsFault.TheVariants as fault
use Rattle.ac_meaning.specs.Writes.{Write}
use Rattle.ac_run.specs.Sessions.{Streams, with_writes, StopsBehind}
use Rattle.ac_run.specs.declared.end.RunEnd.TheVariants as run_end
use Rattle.acute_answers.specs.declared.status.Status.{Status}
use Rattle.acute_answers.specs.declared.status.TheConstants.Status.{OUT_OF_MEMORY, WORDS_REFUSED}
use Rattle.acute_answers.specs.Meaning.{CommandAnswer}
use Rattle.acute_top.specs.Streams.{Writing, AllWritten, memory_line, words_line}
use Rattle.acute_top.specs.Saying.{Said, SaidIfAny}
use Rattle.acute_top.specs.Handed.{Handed, is_told, before_run, after_run, behind_run, IsMade, Untouched}
use Rattle.acute_top.specs.RunEndings.{HasRead, GivesStatus, InputLeft, RunEnded, has_run, bad_list, unread_file, no_memory_yet, no_memory_left}
use Rattle.acute_top.specs.Stages.{AtTexts}
use Rattle.acute_pipe.specs.Spawnings.{Spawning, NoStart}
use Rattle.acute_top.specs.ChainEndings.{no_memory_to_chain}
use Rattle.acute_top.specs.PipeEndings.{no_memory_to_start}
use Rattle.acute_top.specs.Endings.{CallEnded, NoCommand, refused_words, no_memory_for_words, no_memory_to_find}
use Rattle.acute_top.specs.inner.Delivered.{SaysUnread}

-- nothing was written
pub record Still (s : Writing) : Type 0 where
  pub same : s.new ≡ s.old

pub still_whole : (s : Writing) → Still s → AllWritten s []
still_whole s still told = still.same ∙ sym (append-nil s.old)

-- a line that is there
pub said_if_any : (errors : Writing) (line rest : List ℕ) (c : ℕ) (status end : Status) → line ≡ c ∷ rest → Said errors line status end → SaidIfAny errors line status end
said_if_any errors [] rest c status end is s = absurd cc
said_if_any errors (b ∷ line) rest c status end is s = s

pub words_refused : (o : Handed) → Still o.output → (end : Status) → Said o.errors words_line WORDS_REFUSED end → NoCommand o end
words_refused o still end s = refused_words (still_whole o.output still) s

-- want of memory while the words were read
pub end_at_words : (request : Option Request) (o : Handed) (c : Spawning) → Still o.output → ((to : Option ChannelName) → Untouched to o) → o.stage ≡ AtTexts → NoStart c → (end : Status) → Said o.errors memory_line OUT_OF_MEMORY end → CallEnded request o c end
end_at_words None o c still same at none end s = no_memory_for_words (still_whole o.output still) s
end_at_words (Some (run prog steps from to)) o c still same at none end s = no_memory_yet (still_whole o.output still) (same to) at s
end_at_words (Some (names prog)) o c still same at none end s = no_memory_to_find (still_whole o.output still) s
end_at_words (Some (code prog)) o c still same at none end s = no_memory_to_find (still_whole o.output still) s
end_at_words (Some (make seed modules runs)) o c still same at none end s = no_memory_to_find (still_whole o.output still) s
end_at_words (Some (check files list)) o c still same at none end s = no_memory_to_find (still_whole o.output still) s
end_at_words (Some (chain programs list steps)) o c still same at none end s = no_memory_to_chain (still_whole o.output still) s
end_at_words (Some (audit prog channel type)) o c still same at none end s = no_memory_to_find (still_whole o.output still) s
end_at_words (Some (pipe tool sender prog steps written)) o c still same at none end s = no_memory_to_start (still_whole o.output still) none s

-- all that was to be written was, so some of it was and then none
behind_all : (told : Bool) (writes : List Write) (old new : Streams) → (IsTrue told → new ≡ with_writes writes old) → StopsBehind told writes old new
behind_all told writes old new h = record { before = writes; after = []; order = sym (append-nil writes); made = h }

module _ (prog : ProgramFiles) (steps : ℕ) (from to : Option ChannelName) (o : Handed) where
  -- what the text means, with its line, or the line of want of memory in its place
  pub end_told : (r : HasRead prog steps from to o) (a : CommandAnswer) (mid : Bytes) → GivesStatus prog steps from to o r a → a.runs ≡ true → (IsTrue (is_told from to o) → after_run to o mid ≡ with_writes a.writes (before_run to o)) → InputLeft prog steps from to o r run_end.Finished → IsMade to o → (c : ℕ) (rest : List ℕ) → a.line ≡ c ∷ rest
      → (end : Status) → Said (behind_run to o mid) a.line a.status end ⊎ Said (behind_run to o mid) memory_line OUT_OF_MEMORY end → RunEnded prog steps from to o end
  end_told r a mid g runs whole left made c rest is end (inl s) = has_run r a mid g runs whole left made (said_if_any (behind_run to o mid) a.line rest c a.status end is s)
  end_told r a mid g runs whole left made c rest is end (inr s) = no_memory_left r a mid g runs made (inr (behind_all (is_told from to o) a.writes (before_run to o) (after_run to o mid) whole)) s

  -- want of memory before anything was written on output
  pub end_early : Still o.output → Untouched to o → o.stage ≡ AtTexts → (end : Status) → Said o.errors memory_line OUT_OF_MEMORY end → RunEnded prog steps from to o end
  end_early still same at end s = no_memory_yet (still_whole o.output still) same at s

  -- the texts weren't read
  pub end_unread : Still o.output → Untouched to o → o.stage ≡ AtTexts → (f : TextsFault) → ((n : ℕ) → f ≡ fault.Line n → HasBadLine o.files prog.shelf n) → (f ≡ fault.Failed → ReadsFail o.files prog.file prog.shelf) → (end : Status) → SaysUnread f o.errors end → RunEnded prog steps from to o end
  end_unread still same at (fault.Line n) bad failed end (inl s) = bad_list n (bad n refl) (still_whole o.output still) same at s
  end_unread still same at (fault.Line n) bad failed end (inr s) = end_early still same at end s
  end_unread still same at fault.Failed bad failed end s = unread_file (failed refl) (still_whole o.output still) same at s
  end_unread still same at fault.Memory bad failed end s = end_early still same at end s
