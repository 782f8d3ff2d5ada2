-- How a chain of texts comes to its end.
use Rattle.std.specs.Prelude.{◌≡◌, ℕ, List, []}
use Rattle.ac_types.specs.Types.{Bytes}
use Rattle.ac_outside.specs.Outside.{Rose}
use Rattle.ac_load_rules.specs.Accepting.{Shelved}
use Rattle.acute_answers.specs.declared.status.Status.{Status}
use Rattle.acute_answers.specs.declared.status.TheConstants.Status.{FINISHED, OUT_OF_MEMORY, WRITE_FAULT}
use Rattle.acute_answers.specs.Answers.{ShownAnswer}
use Rattle.acute_chain.specs.Chaining.{ChainsInEach}
use Rattle.acute_top.specs.Streams.{Writing, AllWritten, PrefixWritten, write_line, memory_line}
use Rattle.acute_top.specs.Saying.{Said, SaidIfAny}

-- what the texts give was to be printed, and its line to be written, before an end with its status
pub data ChainDelivered (texts : List Bytes) (shelf : List Shelved) (steps : ℕ) (output errors : Writing) (end : Status) : Type 0 where
  whole_chain : (console : Bytes) (a : ShownAnswer) → ChainsInEach texts shelf steps output.told console a → AllWritten output a.printed → SaidIfAny errors a.line a.status end → ChainDelivered texts shelf steps output errors end
  failed_chain : (console : Bytes) (a : ShownAnswer) → ChainsInEach texts shelf steps output.told console a → a.status ≡ FINISHED → Rose output.before output.after → PrefixWritten output a.printed → Said errors write_line WRITE_FAULT end → ChainDelivered texts shelf steps output errors end
  lost_chain : (console : Bytes) (a : ShownAnswer) → ChainsInEach texts shelf steps output.told console a → PrefixWritten output a.printed → Said errors memory_line OUT_OF_MEMORY end → ChainDelivered texts shelf steps output errors end
  never_begun : AllWritten output [] → Said errors memory_line OUT_OF_MEMORY end → ChainDelivered texts shelf steps output errors end
