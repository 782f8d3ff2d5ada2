-- What the call of a chain gives, by what the chain has come to.
use Rattle.std.proofs.Common.{◌≡◌, ◌∙◌, ◌≤◌, inl, inr, refl, sym, ap, subst, append-nil, ℕ, List, [], ◌++◌, length}
use Rattle.std.specs.Prelude.{Result, Ok, Err, IfOk}
use Rattle.ac_types.specs.Types.{Bytes}
use Rattle.ac_types.specs.declared.memory.Memory.{Memory}
use Rattle.ac_types.specs.declared.text.Text.{Text}
use Rattle.ac_rules.specs.Views.{Mode, Plain}
use Rattle.ac_load_rules.specs.Accepting.{Shelved, IsShelf}
use Rattle.ac_load.specs.declared.kind.Kind.{Kind}
use Rattle.ac_chain.specs.declared.chained.ChainPart.{ChainPart}
use Rattle.ac_chain.specs.declared.chained.ChainFault.{ChainFault}
use Rattle.ac_chain.specs.declared.chained.ChainFault.TheVariants as fault
use Rattle.ac_chain.specs.ChainTexts.{RejectsFirst}
use Rattle.ac_chain.specs.ChainMeaning.{console_of}
use Rattle.ac_chain.specs.StringLines.{chain_lines}
use Rattle.ac_chain.specs.Endings.{Printed, HasRun, HasBegun, ClashesFirst, IsChainFault, IsBeforeRuns}
use Rattle.acute_answers.specs.declared.answer.Answer.{Answer}
use Rattle.acute_answers.specs.declared.status.Status.{Status}
use Rattle.acute_answers.specs.declared.status.TheConstants.Status.{FINISHED, REFUSED, CLASH}
use Rattle.acute_answers.specs.Answers.{ShownAnswer, answer_of, printing, telling}
use Rattle.acute_chain.specs.Chaining.{refused_program, clashing, program_line, clash_line, lines_behind}
use Rattle.acute_chain.specs.declared.chaining.Halt.{Halt}
use Rattle.acute_chain.specs.declared.chaining.Halt.TheVariants as halt
use Rattle.acute_chain.specs.Given.{GivesRest, GivesPart, GivesChain}
use Rattle.acute_chain.specs.inner.Telling.{AnswersFault, TellsLine}
use Rattle.acute_chain.proofs.ModesAlike.{chains_in_each}
use Rattle.acute_chain.proofs.PartLines.{lines_are}

module _ (texts : List Bytes) (shelf : List Shelved) (N : ℕ) (c : Printed) where
  module _ (is : IsShelf shelf) (few : length shelf ≤ 256) where
    -- its programs have run
    pub has_run : (parts : List ChainPart) (a : Answer) → ((mode : Mode) → HasRun texts shelf N c mode parts) → answer_of a ≡ printing FINISHED (chain_lines parts) → GivesRest texts shelf N c a
    has_run parts a h e =
        let r = (h Plain).runs in
        record {
          console = console_of r.ends;
          whole = printing FINISHED (console_of r.ends ++ lines_behind 1 [] r.ends);
          gives = chains_in_each texts shelf N c.told is few r;
          printed = (h Plain).printed;
          rest = ap (λ (l : Bytes). console_of r.ends ++ l) (sym (lines_are N c.told 1 [] r.ends parts (h Plain).parts) ∙ sym (ap (λ (s : ShownAnswer). s.printed) e));
          status = sym (ap (λ (s : ShownAnswer). s.status) e);
          line = sym (ap (λ (s : ShownAnswer). s.line) e);
        }

    -- and there was no memory for their lines
    pub has_run_alone : (parts : List ChainPart) → ((mode : Mode) → HasRun texts shelf N c mode parts) → GivesPart texts shelf N c
    has_run_alone parts h =
        let r = (h Plain).runs in
        record {
          console = console_of r.ends;
          whole = printing FINISHED (console_of r.ends ++ lines_behind 1 [] r.ends);
          gives = chains_in_each texts shelf N c.told is few r;
          runs = refl;
          part = λ t. record { front = console_of r.ends; rest = []; split = sym (append-nil (console_of r.ends)); new_is = (h Plain).printed t };
        }

    -- they haven't all
    pub has_begun : ((mode : Mode) → HasBegun texts shelf N c mode) → GivesPart texts shelf N c
    has_begun h =
        let r = (h Plain).runs in
        record {
          console = console_of r.ends;
          whole = printing FINISHED (console_of r.ends ++ lines_behind 1 [] r.ends);
          gives = chains_in_each texts shelf N c.told is few r;
          runs = refl;
          part = (h Plain).printed;
        }

  -- nothing is printed, and there is a line
  module _ (a : Answer) (same : c.new ≡ c.old) where
    pub refused_first : (program part : ℕ) (kind : Kind) → RejectsFirst texts shelf program part kind → answer_of a ≡ telling REFUSED (program_line program part kind) → GivesRest texts shelf N c a
    refused_first program part kind h e =
        record {
          console = [];
          whole = telling REFUSED (program_line program part kind);
          gives = λ mode. refused_program program part kind h;
          printed = λ t. same ∙ sym (append-nil c.old);
          rest = sym (ap (λ (s : ShownAnswer). s.printed) e);
          status = sym (ap (λ (s : ShownAnswer). s.status) e);
          line = sym (ap (λ (s : ShownAnswer). s.line) e);
        }

    pub clashes_first : (p i q j : ℕ) → ClashesFirst texts shelf N c (fault.Clash p i q j) → answer_of a ≡ telling CLASH (clash_line p i q j) → GivesRest texts shelf N c a
    clashes_first p i q j h e =
        record {
          console = [];
          whole = telling CLASH (clash_line p i q j);
          gives = λ mode. clashing p i q j (record { programs = h.programs; load = h.load; is_first = h.is_first });
          printed = λ t. same ∙ sym (append-nil c.old);
          rest = sym (ap (λ (s : ShownAnswer). s.printed) e);
          status = sym (ap (λ (s : ShownAnswer). s.status) e);
          line = sym (ap (λ (s : ShownAnswer). s.line) e);
        }

  -- the answer to a fault is what the call gives
  pub answered : IsShelf shelf → length shelf ≤ 256 → (f : ChainFault) (r : Result Answer Halt) → IsChainFault texts shelf N c f → (IsBeforeRuns f → c.new ≡ c.old) → AnswersFault f r → GivesChain texts shelf N c r
  answered is few (fault.Refused program refusal) (Ok a) cause same h = refused_first a (same tt) program refusal.part refusal.kind cause h
  answered is few (fault.Refused program refusal) (Err halt.WriteFault) cause same h = absurd h
  answered is few (fault.Refused program refusal) (Err halt.Memory) cause same h = inl (same tt)
  answered is few (fault.Clash p i q j) (Ok a) cause same h = clashes_first a (same tt) p i q j cause h
  answered is few (fault.Clash p i q j) (Err halt.WriteFault) cause same h = absurd h
  answered is few (fault.Clash p i q j) (Err halt.Memory) cause same h = inl (same tt)
  answered is few fault.WriteFault (Ok a) cause same h = absurd h
  answered is few fault.WriteFault (Err halt.WriteFault) cause same h = (cause.0, has_begun is few cause.1)
  answered is few fault.WriteFault (Err halt.Memory) cause same h = absurd h
  answered is few fault.Memory (Ok a) cause same h = absurd h
  answered is few fault.Memory (Err halt.WriteFault) cause same h = absurd h
  answered is few fault.Memory (Err halt.Memory) (inl e) same h = inl e
  answered is few fault.Memory (Err halt.Memory) (inr b) same h = inr (has_begun is few b)

-- a line that is told answers a fault, or there was no memory for it
pub told : (f : ChainFault) (status : Status) (bytes : Bytes) → ((a : Answer) → answer_of a ≡ telling status bytes → AnswersFault f (Ok a)) → AnswersFault f (Err halt.Memory) → (line : Result Text Memory) (r : Result Answer Halt) → IfOk line (λ l. l.0 ≡ bytes) → TellsLine status line r → AnswersFault f r
told f status bytes answers lost (Ok l) (Ok a) is h = answers a (h ∙ ap (telling status) is)
told f status bytes answers lost (Ok l) (Err x) is h = absurd h
told f status bytes answers lost (Err m) r is h = subst (AnswersFault f) (sym h) lost
