-- What `audit` gives: a line for each frame of a channel, with its verdict.
use Rattle.std.specs.Prelude.{ℕ, Bool, true, false, List, [], ◌∷◌, ◌++◌, codes, if◌then◌else◌}
use Rattle.std.specs.List.{list_all}
use Rattle.std.specs.Fmt.{decimal}
use Rattle.ac_types.specs.Types.{Bytes, Typ}
use Rattle.ac_terms.specs.Terms.{Expr}
use Rattle.ac_terms.specs.Defs.{Environment}
use Rattle.ac_text.specs.NumberedLines.{lines_from}
use Rattle.ac_channels.specs.ChannelFrames.{ChannelFrames, AllFrames, BadFrame}
use Rattle.ac_load_rules.specs.Accepting.{Shelved}
use Rattle.ac_load.specs.Loading.{Loads, Rejects}
use Rattle.ac_load.specs.declared.kind.Kind.{Kind}
use Rattle.ac_audit.specs.FrameVerdicts.{HaveVerdicts}
use Rattle.ac_audit.specs.TypeTexts.{IsTypeText, RefusesType}
use Rattle.ac_audit.specs.declared.verdict.AuditVerdict.{AuditVerdict}
use Rattle.ac_audit.specs.declared.verdict.AuditVerdict.TheVariants.{Accepted, Format, Definition, Clash, Full, Unresolved, WrongType, Value}
use Rattle.acute_answers.specs.declared.status.Status.{Status}
use Rattle.acute_answers.specs.declared.status.TheConstants.Status.{FINISHED, REFUSED, CHANNEL_REFUSED}
use Rattle.acute_answers.specs.Answers.{ShownAnswer, printing, telling}
use Rattle.acute_answers.specs.Lines.{refusal_line}
use Rattle.acute_answers.specs.Reasons.{reason}

abbrev pub frame_word : AuditVerdict → Bytes
frame_word Accepted = codes "accepted"
frame_word Format = codes "format"
frame_word Definition = codes "definition"
frame_word Clash = codes "clash"
frame_word Full = codes "full"
frame_word (Unresolved name) = codes "unresolved " ++ name
frame_word WrongType = codes "type"
frame_word Value = codes "value"

-- `frame K: V` and the end of the line
abbrev pub frame_line : ℕ → AuditVerdict → Bytes
frame_line k v = codes "frame " ++ (decimal k ++ (codes ": " ++ (frame_word v ++ 10 ∷ [])))

-- one for each verdict, from frame 1 on
abbrev pub frame_lines : List AuditVerdict → Bytes
frame_lines vs = lines_from frame_line 1 vs

abbrev pub takes_frame : AuditVerdict → Bool
takes_frame Accepted = true
takes_frame Format = false
takes_frame Definition = false
takes_frame Clash = false
takes_frame Full = false
takes_frame (Unresolved name) = false
takes_frame WrongType = false
takes_frame Value = false

-- the status of a refusal where one isn't accepted
abbrev pub frames_status : List AuditVerdict → Status
frames_status vs = if list_all takes_frame vs then FINISHED else REFUSED

-- why TYPE is refused
abbrev pub type_line : Kind → Bytes
type_line kind = codes "acute: refused: as: " ++ reason 0 kind

-- which frame of the channel is refused
abbrev pub channel_line : ℕ → Bytes
channel_line k = codes "acute: channel: frame " ++ (decimal k ++ 10 ∷ [])

-- what definitions say of a channel at a type: which frame of it is refused, or a line for each and none on errors
pub data AuditsFrames (E : Environment) (T : Typ) : ChannelFrames → ShownAnswer → Type 0 where
  refused_channel : (k : ℕ) → AuditsFrames E T (BadFrame k) (telling CHANNEL_REFUSED (channel_line k))
  audited : (ss : List Bytes) (vs : List AuditVerdict) → HaveVerdicts E T ss vs → AuditsFrames E T (AllFrames ss) (printing (frames_status vs) (frame_lines vs))

-- a text is refused beside a shelf, or TYPE is, behind its definitions
pub data RefusesAudit (text : Bytes) (shelf : List Shelved) (type : Bytes) : ShownAnswer → Type 0 where
  refused_program : (part : ℕ) (kind : Kind) → Rejects text shelf part kind → RefusesAudit text shelf type (telling REFUSED (refusal_line part kind))
  refused_type : (E : Environment) (e : Expr) (T : Typ) (kind : Kind) → Loads text shelf E e T → RefusesType E type kind → RefusesAudit text shelf type (telling REFUSED (type_line kind))

-- one of these is; or they say that of the channel that has such frames
pub data Audits (text : Bytes) (shelf : List Shelved) (type : Bytes) (Has : ChannelFrames → Type 0) (a : ShownAnswer) : Type 0 where
  not_audited : RefusesAudit text shelf type a → Audits text shelf type Has a
  read_channel : (E : Environment) (e : Expr) (T U : Typ) (frames : ChannelFrames) → Loads text shelf E e T → IsTypeText E type U → Has frames → AuditsFrames E U frames a → Audits text shelf type Has a
