-- How a chain comes to its end.
use Rattle.std.proofs.Common.{◌≡◌, ◌∙◌, ◌⊎◌, ◌≤◌, inl, inr, refl, sym, ap, subst, append-nil, append_assoc, ℕ, Bool, IsTrue, List, [], ◌++◌, Option}
use Rattle.ac_types.specs.Types.{Bytes}
use Rattle.ac_types.specs.declared.text.Text.{Text}
use Rattle.ac_outside.specs.Outside.{Extends, Rose}
use Rattle.ac_rules.specs.Views.{Plain}
use Rattle.ac_load_rules.specs.Accepting.{Shelved}
use Rattle.acute_files.specs.Files.{Reading}
use Rattle.acute_files.specs.ManyTexts.{AreTexts, TextsFail}
use Rattle.acute_files.specs.ProgramTexts.{IsShelfBy, HasBadLine}
use Rattle.acute_files.specs.declared.shelf.TextsFault.{TextsFault}
use Rattle.acute_files.specs.declared.shelf.TextsFault.TheVariants as fault
use Rattle.ac_chain.specs.ChainTexts.{texts_of}
use Rattle.ac_chain.specs.Endings.{Printed}
use Rattle.acute_answers.specs.declared.answer.Answer.{Answer}
use Rattle.acute_answers.specs.declared.status.Status.{Status}
use Rattle.acute_answers.specs.declared.status.TheConstants.Status.{FINISHED, OUT_OF_MEMORY, WRITE_FAULT}
use Rattle.acute_answers.specs.Answers.{ShownAnswer}
use Rattle.acute_chain.specs.Chaining.{Chains, refused_program, clashing, ran, lines_behind}
use Rattle.acute_chain.specs.Given.{GivesRest, GivesPart}
use Rattle.acute_top.specs.Streams.{Writing, write_line, memory_line}
use Rattle.acute_top.specs.Saying.{Said, SaidIfAny}
use Rattle.acute_top.specs.ChainEndings.{ChainEnded, has_chained, bad_chain_list, unread_chain, unprinted_chain, no_memory_to_chain, no_memory_in_chain}
use Rattle.acute_top.specs.inner.ChainDelivered.{ChainDelivered, whole_chain, failed_chain, lost_chain, never_begun}
use Rattle.acute_top.specs.inner.Delivered.{Delivered, whole, print_failed, lost_in_print, SaysUnread}
use Rattle.acute_top.proofs.EndingLaws.{Still, still_whole}
use Rattle.acute_top.proofs.PlaceLaws.{rose_earlier}

-- output before and after the programs print, and after all
abbrev stream : Bool → Bytes → Bytes → ℕ → ℕ → Writing
stream told old new before after = record { told = told; old = old; new = new; before = before; after = after }

abbrev console : Bool → Bytes → Bytes → ℕ → ℕ → Printed
console told old new before after = record { told = told; old = old; new = new; before = before; after = after }

-- what the programs print stands first in the answer
console_rest : (texts : List Bytes) (shelf : List Shelved) (steps : ℕ) (told : Bool) (printed : Bytes) (a : ShownAnswer) → Chains Plain texts shelf steps told printed a → (rest : Bytes) × (a.printed ≡ printed ++ rest)
console_rest texts shelf steps told _ _ (refused_program program part kind x) = ([], refl)
console_rest texts shelf steps told _ _ (clashing a i b j x) = ([], refl)
console_rest texts shelf steps told _ _ (ran r h) = (lines_behind 1 [] r.ends, refl)

-- where something is printed the programs run
run_if_printed : (texts : List Bytes) (shelf : List Shelved) (steps : ℕ) (told : Bool) (printed : Bytes) (a : ShownAnswer) → Chains Plain texts shelf steps told printed a → (rest : Bytes) → (rest ≡ [] → ⊥) → a.printed ≡ printed ++ rest → a.status ≡ FINISHED
run_if_printed texts shelf steps told _ _ (refused_program program part kind x) rest some is = absurd (some (sym is))
run_if_printed texts shelf steps told _ _ (clashing a i b j x) rest some is = absurd (some (sym is))
run_if_printed texts shelf steps told _ _ (ran r h) rest some is = refl

-- a part of what comes behind some front
behind : (old mid new front rest all : Bytes) → mid ≡ old ++ front → all ≡ front ++ rest → Extends mid new rest → Extends old new all
behind old mid new front rest all at is x = record {
  front = front ++ x.front;
  rest = x.rest;
  split = is ∙ ap (λ (l : Bytes). front ++ l) x.split ∙ sym (append_assoc front x.front x.rest);
  new_is = x.new_is ∙ ap (λ (l : Bytes). l ++ x.front) at ∙ append_assoc old front x.front;
}

module _ (texts : List Bytes) (shelf : List Shelved) (steps : ℕ) (told : Bool) (old mid new : Bytes) (before between after : ℕ) (errors : Writing) where
  -- an answer that goes on where the programs have stopped printing
  pub delivered_behind : (a : Answer) → before ≤ between → GivesRest texts shelf steps (console told old mid before between) a → (end : Status) → Delivered a (stream told mid new between after) errors end → ChainDelivered texts shelf steps (stream told old new before after) errors end
  delivered_behind a later g end (whole w s) =
      whole_chain g.console g.whole g.gives
      (λ t. w t ∙ ap (λ (l : Bytes). l ++ a.printed.0) (g.printed t) ∙ append_assoc old g.console a.printed.0 ∙ ap (λ (l : Bytes). old ++ l) (sym g.rest))
      (subst (λ (l : Bytes). SaidIfAny errors l g.whole.status end) (sym g.line) (subst (λ (n : Status). SaidIfAny errors a.line.0 n end) (sym g.status) s))
  delivered_behind a later g end (print_failed some rose p s) =
      failed_chain g.console g.whole g.gives (run_if_printed texts shelf steps told g.console g.whole (g.gives Plain) a.printed.0 some g.rest) (rose_earlier before between after later rose) (λ t. behind old mid new g.console a.printed.0 g.whole.printed (g.printed t) g.rest (p t)) s
  delivered_behind a later g end (lost_in_print p s) =
      lost_chain g.console g.whole g.gives (λ t. behind old mid new g.console a.printed.0 g.whole.printed (g.printed t) g.rest (p t)) s

module _ (texts : List Bytes) (shelf : List Shelved) (steps : ℕ) (told : Bool) (old new : Bytes) (before after : ℕ) (errors : Writing) where
  -- a part of what the programs print is one of the answer
  of_console : (g : GivesPart texts shelf steps (console told old new before after)) → IsTrue told → Extends old new g.whole.printed
  of_console g t = let r = console_rest texts shelf steps told g.console g.whole (g.gives Plain) in let x = g.part t in
      record { front = x.front; rest = x.rest ++ r.0; split = r.1 ∙ ap (λ (l : Bytes). l ++ r.0) x.split ∙ append_assoc x.front x.rest r.0; new_is = x.new_is }

  -- a print of a program failed
  pub delivered_failed : Rose before after × GivesPart texts shelf steps (console told old new before after) → (end : Status) → Said errors write_line WRITE_FAULT end → ChainDelivered texts shelf steps (stream told old new before after) errors end
  delivered_failed g end s = failed_chain g.1.console g.1.whole g.1.gives g.1.runs g.0 (of_console g.1) s

  -- memory ran out
  pub delivered_lost : (new ≡ old) ⊎ GivesPart texts shelf steps (console told old new before after) → (end : Status) → Said errors memory_line OUT_OF_MEMORY end → ChainDelivered texts shelf steps (stream told old new before after) errors end
  delivered_lost (inl same) end s = never_begun (λ t. same ∙ sym (append-nil old)) s
  delivered_lost (inr g) end s = lost_chain g.console g.whole g.gives (of_console g) s

module _ (programs : List Bytes) (list : Option Bytes) (steps : ℕ) (files : Bytes → Reading) (output errors : Writing) where
  -- the texts of files were chained
  pub chained : (shelf : List Shelved) (texts : List Text) → IsShelfBy files list shelf → AreTexts files programs texts → (end : Status) → ChainDelivered (texts_of texts) shelf steps output errors end → ChainEnded programs list steps files output errors end
  chained shelf texts is are end (whole_chain console a g w s) = has_chained a (record { shelf = shelf; is_shelf = is; texts = texts; are_texts = are; console = console; chains = g }) w s
  chained shelf texts is are end (failed_chain console a g runs rose p s) = unprinted_chain a (record { shelf = shelf; is_shelf = is; texts = texts; are_texts = are; console = console; chains = g }) runs rose p s
  chained shelf texts is are end (lost_chain console a g p s) = no_memory_in_chain a (record { shelf = shelf; is_shelf = is; texts = texts; are_texts = are; console = console; chains = g }) p s
  chained shelf texts is are end (never_begun w s) = no_memory_to_chain w s

  -- they weren't read
  pub not_chained : Still output → (f : TextsFault) → ((n : ℕ) → f ≡ fault.Line n → HasBadLine files list n) → (f ≡ fault.Failed → TextsFail files programs list) → (end : Status) → SaysUnread f errors end → ChainEnded programs list steps files output errors end
  not_chained still (fault.Line n) bad failed end (inl s) = bad_chain_list n (bad n refl) (still_whole output still) s
  not_chained still (fault.Line n) bad failed end (inr s) = no_memory_to_chain (still_whole output still) s
  not_chained still fault.Failed bad failed end s = unread_chain (failed refl) (still_whole output still) s
  not_chained still fault.Memory bad failed end s = no_memory_to_chain (still_whole output still) s
