-- The files and channels that a request names.
use Rattle.std.specs.Prelude.{List, [], ◌∷◌, Option, Some, None}
use Rattle.ac_types.specs.Types.{Bytes, Typ}
use Rattle.ac_terms.specs.Terms.{Expr}
use Rattle.ac_terms.specs.Defs.{Environment}
use Rattle.acute_words.specs.Commands.{ChannelName, ProgramFiles, Request, run, names, code, make, check, chain, audit, pipe}
use Rattle.ac_load_rules.specs.Accepting.{Shelved}
use Rattle.ac_load.specs.Loading.{Loads}
use Rattle.ac_audit.specs.TypeTexts.{IsTypeText}
use Rattle.acute_files.specs.Files.{Reading, IsTextOf}
use Rattle.acute_files.specs.ManyTexts.{TextsFail}
use Rattle.acute_files.specs.ProgramTexts.{ReadRose, IsShelfBy, ReadsFail}

-- the files that are read beside the shelf, in their order
abbrev pub files_loaded : Request → List Bytes
files_loaded (run p steps from to) = p.file ∷ []
files_loaded (names p) = p.file ∷ []
files_loaded (code p) = p.file ∷ []
files_loaded (make seed modules runs) = []
files_loaded (check files list) = files
files_loaded (chain programs list steps) = programs
files_loaded (audit p channel type) = p.file ∷ channel ∷ []
files_loaded (pipe tool sender p steps written) = p.file ∷ []

-- the file of the list of the shelf beside them
abbrev pub list_named : Request → Option Bytes
list_named (run p steps from to) = p.shelf
list_named (names p) = p.shelf
list_named (code p) = p.shelf
list_named (make seed modules runs) = None
list_named (check files list) = list
list_named (chain programs list steps) = list
list_named (audit p channel type) = p.shelf
list_named (pipe tool sender p steps written) = p.shelf

-- a read failed in an `audit`: of the texts; or of the channel, where the program loads and TYPE is a type
pub data AuditFails (files : Bytes → Reading) (p : ProgramFiles) (channel type : Bytes) : Type 0 where
  of_texts : ReadsFail files p.file p.shelf → AuditFails files p channel type
  of_channel_file : (shelf : List Shelved) (text : Bytes) (E : Environment) (e : Expr) (T U : Typ) → IsShelfBy files p.shelf shelf → IsTextOf (files p.file) text → Loads text shelf E e T → IsTypeText E type U → ReadRose (files channel) → AuditFails files p channel type

-- a read failed, of the list, of a file that it names, or of one of the files behind them
abbrev pub IsUnreadable : (Bytes → Reading) → Request → Type 0
IsUnreadable files (audit p channel type) = AuditFails files p channel type
IsUnreadable files r = TextsFail files (files_loaded r) (list_named r)

-- the channel from which a request reads
abbrev pub channel_read : Option Request → Option ChannelName
channel_read None = None
channel_read (Some (run p steps from to)) = from
channel_read (Some r) = None

-- the channel to which a request sends
abbrev pub channel_written : Option Request → Option ChannelName
channel_written None = None
channel_written (Some (run p steps from to)) = to
channel_written (Some r) = None

-- a request starts no child
abbrev pub StartsNone : Option Request → Type 0
StartsNone (Some (pipe tool sender p steps written)) = ⊥
StartsNone r = Unit {0}
