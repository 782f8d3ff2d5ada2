-- The answers that have a line alone.
use Rattle.std.specs.Prelude.{◌≡◌, Result, Ok, Err}
use Rattle.ac_types.specs.declared.memory.Memory.{Memory}
use Rattle.ac_types.specs.declared.text.Text.{Text}
use Rattle.ac_chain.specs.declared.chained.ChainFault.{ChainFault}
use Rattle.ac_chain.specs.declared.chained.ChainFault.TheVariants as fault
use Rattle.acute_answers.specs.declared.status.Status.{Status}
use Rattle.acute_answers.specs.declared.status.TheConstants.Status.{REFUSED, CLASH}
use Rattle.acute_answers.specs.Answers.{telling, answer_of}
use Rattle.acute_answers.specs.declared.answer.Answer.{Answer}
use Rattle.acute_chain.specs.declared.chaining.Halt.{Halt}
use Rattle.acute_chain.specs.declared.chaining.Halt.TheVariants as halt
use Rattle.acute_chain.specs.Chaining.{program_line, clash_line}

-- the answer to a fault in front of the runs, or the fault itself
abbrev pub AnswersFault : ChainFault → Result Answer Halt → Type 0
AnswersFault (fault.Refused program refusal) (Ok a) = answer_of a ≡ telling REFUSED (program_line program refusal.part refusal.kind)
AnswersFault (fault.Clash program1 entry1 program2 entry2) (Ok a) = answer_of a ≡ telling CLASH (clash_line program1 entry1 program2 entry2)
AnswersFault fault.WriteFault (Err halt.WriteFault) = Unit {0}
AnswersFault fault.WriteFault r = ⊥
AnswersFault fault.Memory (Ok a) = ⊥
AnswersFault f (Err halt.Memory) = Unit {0}
AnswersFault f (Err halt.WriteFault) = ⊥

-- the answer that has a line alone, or there was no memory for it
abbrev pub TellsLine : Status → Result Text Memory → Result Answer Halt → Type 0
TellsLine status (Ok line) (Ok a) = answer_of a ≡ telling status line.0
TellsLine status (Ok line) (Err h) = ⊥
TellsLine status (Err e) r = r ≡ Err halt.Memory
