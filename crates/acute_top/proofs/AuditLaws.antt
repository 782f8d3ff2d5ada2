-- How an audit comes to the end of its request.
use Rattle.std.proofs.Common.{◌≡◌, IsTrue, List, IfOk, Ok, refl, sym, ◌∙◌, ap, subst, arith}
use Rattle.std.specs.Prelude.{Bool, Result}
use Rattle.ac_types.specs.Types.{Bytes, Typ}
use Rattle.ac_types.specs.declared.memory.Memory.{Memory}
use Rattle.ac_terms.specs.Terms.{Expr}
use Rattle.ac_terms.specs.Defs.{Environment}
use Rattle.ac_outside.specs.Outside.{Contents, NeverFall}
use Rattle.acute_words.specs.Commands.{ProgramFiles, audit}
use Rattle.ac_channels.specs.ChannelFrames.{ChannelFrames}
use Rattle.ac_load_rules.specs.Accepting.{Shelved}
use Rattle.ac_load.specs.Loading.{Loads}
use Rattle.ac_audit.specs.TypeTexts.{IsTypeText}
use Rattle.acute_files.specs.ChannelFiles.{HasFrames}
use Rattle.acute_files.specs.Files.{FilesSeen, Reading, files_read, IsTextOf}
use Rattle.acute_files.specs.ProgramTexts.{IsShelfBy}
use Rattle.acute_answers.specs.declared.answer.Answer.{Answer}
use Rattle.acute_answers.specs.declared.status.Status.{Status}
use Rattle.acute_answers.specs.Answers.{ShownAnswer, answer_of}
use Rattle.acute_answers.specs.Auditing.{Audits, AuditsFrames, not_audited, read_channel}
use Rattle.acute_top.specs.Streams.{Writing}
use Rattle.acute_top.specs.Requests.{of_channel_file}
use Rattle.acute_top.specs.Giving.{AuditsFile}
use Rattle.acute_top.specs.Endings.{AnswerEnded, unread, no_memory_to_find}
use Rattle.acute_top.specs.inner.Audited.{HasAuditedChannel, said_of_frames, no_frames, no_memory_for_frames, HasAudited, said_of_channel, no_channel, no_memory_to_audit}
use Rattle.acute_top.specs.inner.Delivered.{DeliveredIfFound, delivered, not_found}
use Rattle.acute_top.proofs.AnswerLaws.{answered}

-- what was found of frames is said of them
pub found_of : (E : Environment) (T : Typ) (file : Reading) (output errors : Writing) (frames : ChannelFrames) → HasFrames file frames → (found : Result Answer Memory) → IfOk found (λ a. AuditsFrames E T frames (answer_of a)) → (end : Status) → DeliveredIfFound found output errors end
    → HasAuditedChannel E T file output errors end
found_of E T file output errors frames has found says end (delivered a is d) = said_of_frames frames a has (subst (λ (f : Result Answer Memory). IfOk f (λ a. AuditsFrames E T frames (answer_of a))) is says) d
found_of E T file output errors frames has found says end (not_found w s) = no_memory_for_frames w s

-- by a program that is loaded, at a type
pub by_program : (text : Bytes) (shelf : List Shelved) (type : Bytes) (file : Reading) (output errors : Writing) (end : Status) (E : Environment) (e : Expr) (T U : Typ) → Loads text shelf E e T → IsTypeText E type U → HasAuditedChannel E U file output errors end
    → HasAudited text shelf type file output errors end
by_program text shelf type file output errors end E e T U loads is (said_of_frames frames a has says d) = said_of_channel a (read_channel E e T U frames loads is has says) d
by_program text shelf type file output errors end E e T U loads is (no_frames rose w s) = no_channel E e T U loads is rose w s
by_program text shelf type file output errors end E e T U loads is (no_memory_for_frames w s) = no_memory_to_audit w s

-- a file that was the same before
wide_frames : (told : Bool) (s t u : FilesSeen) → (IsTrue told → t.contents ≡ s.contents) → (name : Bytes) (frames : ChannelFrames) → HasFrames (files_read told t u name) frames → HasFrames (files_read told s u name) frames
wide_frames told s t u same name frames has = λ yes. let x = has yes in (x.0, sym (ap (λ (c : Contents). c name) (same yes)) ∙ x.1, x.2)

wide_audits : (text : Bytes) (shelf : List Shelved) (type : Bytes) (P Q : ChannelFrames → Type 0) → ((f : ChannelFrames) → P f → Q f) → (a : ShownAnswer) → Audits text shelf type P a → Audits text shelf type Q a
wide_audits text shelf type P Q wide a (not_audited r) = not_audited r
wide_audits text shelf type P Q wide a (read_channel E e T U frames loads is has says) = read_channel E e T U frames loads is (wide frames has) says

pub wide_audited : (told : Bool) (s t u : FilesSeen) → (IsTrue told → t.contents ≡ s.contents) → NeverFall s.read_faults t.read_faults → (text : Bytes) (shelf : List Shelved) (type channel : Bytes) (output errors : Writing) (end : Status)
    → HasAudited text shelf type (files_read told t u channel) output errors end → HasAudited text shelf type (files_read told s u channel) output errors end
wide_audited told s t u same low text shelf type channel output errors end (said_of_channel a says d) =
    said_of_channel a (wide_audits text shelf type (HasFrames (files_read told t u channel)) (HasFrames (files_read told s u channel)) (wide_frames told s t u same channel) (answer_of a) says) d
wide_audited told s t u same low text shelf type channel output errors end (no_channel E e T U loads is rose w x) = no_channel E e T U loads is (omega (arith, rose, low channel)) w x
wide_audited told s t u same low text shelf type channel output errors end (no_memory_to_audit w x) = no_memory_to_audit w x

-- the end of the request
pub ended : (files : Bytes → Reading) (p : ProgramFiles) (channel type : Bytes) (output errors : Writing) (shelf : List Shelved) → IsShelfBy files p.shelf shelf → (text : Bytes) → IsTextOf (files p.file) text → (end : Status) → HasAudited text shelf type (files channel) output errors end
    → AnswerEnded (audit p channel type) files output errors end
ended files p channel type output errors shelf is_shelf text is_text end (said_of_channel a says d) =
    let gives : AuditsFile files p channel type (answer_of a) = record { shelf = shelf; is_shelf = is_shelf; text = text; is_text = is_text; audits = says } in
    answered (audit p channel type) files output errors (Ok a) gives end (delivered a refl d)
ended files p channel type output errors shelf is_shelf text is_text end (no_channel E e T U loads is rose w x) = unread (of_channel_file shelf text E e T U is_shelf is_text loads is rose) w x
ended files p channel type output errors shelf is_shelf text is_text end (no_memory_to_audit w x) = no_memory_to_find w x
