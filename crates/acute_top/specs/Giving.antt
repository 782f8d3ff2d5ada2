-- What is given by a request that prints what it finds, of the texts that were read.
use Rattle.std.specs.Prelude.{List, Option}
use Rattle.ac_types.specs.Types.{Bytes}
use Rattle.ac_types.specs.declared.text.Text.{Text}
use Rattle.acute_words.specs.Commands.{ProgramFiles, Request, run, names, code, make, check, chain, audit, pipe}
use Rattle.ac_load_rules.specs.Accepting.{Shelved}
use Rattle.acute_files.specs.ChannelFiles.{HasFrames}
use Rattle.acute_files.specs.Files.{Reading, IsTextOf}
use Rattle.acute_files.specs.ManyTexts.{AreTexts}
use Rattle.acute_files.specs.ProgramTexts.{IsShelfBy}
use Rattle.acute_answers.specs.declared.showing.Showing.{Showing}
use Rattle.acute_answers.specs.declared.showing.Showing.TheVariants.{Names, Code}
use Rattle.acute_answers.specs.Answers.{ShownAnswer}
use Rattle.acute_answers.specs.Auditing.{Audits}
use Rattle.acute_answers.specs.Checking.{Checks}
use Rattle.acute_answers.specs.Making.{Makes}
use Rattle.acute_answers.specs.Showing.{Shows}

-- that is shown of the program of a file
pub record ShowsFile (what : Showing) (files : Bytes → Reading) (p : ProgramFiles) (a : ShownAnswer) : Type 0 where
  pub shelf : List Shelved
  pub is_shelf : IsShelfBy files p.shelf shelf
  pub text : Bytes
  pub is_text : IsTextOf (files p.file) text
  pub shows : Shows what text shelf a

-- the texts of files are checked
pub record ChecksFiles (files : Bytes → Reading) (checked : List Bytes) (list : Option Bytes) (a : ShownAnswer) : Type 0 where
  pub shelf : List Shelved
  pub is_shelf : IsShelfBy files list shelf
  pub texts : List Text
  pub are_texts : AreTexts files checked texts
  pub checks : Checks checked texts shelf a

-- the program of a file says that of the frames of a channel's file, at the type of a text
pub record AuditsFile (files : Bytes → Reading) (p : ProgramFiles) (channel type : Bytes) (a : ShownAnswer) : Type 0 where
  pub shelf : List Shelved
  pub is_shelf : IsShelfBy files p.shelf shelf
  pub text : Bytes
  pub is_text : IsTextOf (files p.file) text
  pub audits : Audits text shelf type (HasFrames (files channel)) a

-- what each request gives; `run`, `chain` and `pipe` print as they go, and end in their own ways
abbrev pub Gives : (Bytes → Reading) → Request → ShownAnswer → Type 0
Gives files (run p steps from to) a = ⊥
Gives files (names p) a = ShowsFile Names files p a
Gives files (code p) a = ShowsFile Code files p a
Gives files (make seed modules runs) a = Makes seed modules runs a
Gives files (check checked list) a = ChecksFiles files checked list a
Gives files (chain programs list steps) a = ⊥
Gives files (audit p channel type) a = AuditsFile files p channel type a
Gives files (pipe tool sender p steps written) a = ⊥
