-- What the call of a chain gives, over the console that it has printed on.
use Rattle.std.specs.Prelude.{◌≡◌, ◌⊎◌, ℕ, IsTrue, List, ◌++◌, Result, Ok, Err}
use Rattle.ac_types.specs.Types.{Bytes}
use Rattle.ac_outside.specs.Outside.{Extends, Rose}
use Rattle.ac_load_rules.specs.Accepting.{Shelved}
use Rattle.ac_chain.specs.Endings.{Printed}
use Rattle.acute_answers.specs.declared.status.TheConstants.Status.{FINISHED}
use Rattle.acute_answers.specs.Answers.{ShownAnswer}
use Rattle.acute_answers.specs.declared.answer.Answer.{Answer}
use Rattle.acute_chain.specs.declared.chaining.Halt.{Halt}
use Rattle.acute_chain.specs.declared.chaining.Halt.TheVariants as halt
use Rattle.acute_chain.specs.Chaining.{ChainsInEach}

module _ (texts : List Bytes) (shelf : List Shelved) (steps : ℕ) (c : Printed) where
  -- what the programs print was printed, and the answer goes on behind it
  pub record GivesRest (a : Answer) : Type 0 where
    pub console : Bytes
    pub whole : ShownAnswer
    pub gives : ChainsInEach texts shelf steps c.told console whole
    pub printed : IsTrue c.told → c.new ≡ c.old ++ console
    pub rest : whole.printed ≡ console ++ a.printed.0
    pub status : whole.status ≡ a.status
    pub line : whole.line ≡ a.line.0

  -- the programs run, and a prefix of what they print was printed, and nothing else
  pub record GivesPart : Type 0 where
    pub console : Bytes
    pub whole : ShownAnswer
    pub gives : ChainsInEach texts shelf steps c.told console whole
    pub runs : whole.status ≡ FINISHED
    pub part : IsTrue c.told → Extends c.old c.new console

  -- an answer, or the cause why there is none
  abbrev pub GivesChain : Result Answer Halt → Type 0
  GivesChain (Ok a) = GivesRest a
  GivesChain (Err halt.WriteFault) = Rose c.before c.after × GivesPart
  GivesChain (Err halt.Memory) = (c.new ≡ c.old) ⊎ GivesPart
