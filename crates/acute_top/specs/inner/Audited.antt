-- How an audit has ended, whatever was read in front of it.
use Rattle.std.specs.Prelude.{List, []}
use Rattle.ac_types.specs.Types.{Bytes, Typ}
use Rattle.ac_terms.specs.Terms.{Expr}
use Rattle.ac_terms.specs.Defs.{Environment}
use Rattle.ac_channels.specs.ChannelFrames.{ChannelFrames}
use Rattle.ac_load_rules.specs.Accepting.{Shelved}
use Rattle.ac_load.specs.Loading.{Loads}
use Rattle.ac_audit.specs.TypeTexts.{IsTypeText}
use Rattle.acute_files.specs.ChannelFiles.{HasFrames}
use Rattle.acute_files.specs.Files.{Reading}
use Rattle.acute_files.specs.ProgramTexts.{ReadRose}
use Rattle.acute_answers.specs.declared.answer.Answer.{Answer}
use Rattle.acute_answers.specs.declared.status.Status.{Status}
use Rattle.acute_answers.specs.declared.status.TheConstants.Status.{OUT_OF_MEMORY, READ_FAULT}
use Rattle.acute_answers.specs.Answers.{answer_of}
use Rattle.acute_answers.specs.Auditing.{Audits, AuditsFrames}
use Rattle.acute_top.specs.Streams.{Writing, AllWritten, read_line, memory_line}
use Rattle.acute_top.specs.Saying.{Said}
use Rattle.acute_top.specs.inner.Delivered.{Delivered}

-- by these definitions at a type, over the file of the channel
pub data HasAuditedChannel (E : Environment) (T : Typ) (file : Reading) (output errors : Writing) (end : Status) : Type 0 where
  said_of_frames : (frames : ChannelFrames) (a : Answer) → HasFrames file frames → AuditsFrames E T frames (answer_of a) → Delivered a output errors end → HasAuditedChannel E T file output errors end
  no_frames : ReadRose file → AllWritten output [] → Said errors read_line READ_FAULT end → HasAuditedChannel E T file output errors end
  no_memory_for_frames : AllWritten output [] → Said errors memory_line OUT_OF_MEMORY end → HasAuditedChannel E T file output errors end

-- by the text of a program beside a shelf, at the type of a text
pub data HasAudited (text : Bytes) (shelf : List Shelved) (type : Bytes) (file : Reading) (output errors : Writing) (end : Status) : Type 0 where
  said_of_channel : (a : Answer) → Audits text shelf type (HasFrames file) (answer_of a) → Delivered a output errors end → HasAudited text shelf type file output errors end
  no_channel : (E : Environment) (e : Expr) (T U : Typ) → Loads text shelf E e T → IsTypeText E type U → ReadRose file → AllWritten output [] → Said errors read_line READ_FAULT end → HasAudited text shelf type file output errors end
  no_memory_to_audit : AllWritten output [] → Said errors memory_line OUT_OF_MEMORY end → HasAudited text shelf type file output errors end
