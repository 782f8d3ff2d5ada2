-- The commands, and the words that give them.
use Rattle.std.specs.Prelude.{ℕ, Bool, true, false, List, [], ◌∷◌, length, map, codes, nat_le}
use Rattle.std.specs.Prelude.{Option, Some, None, is_some, if◌then◌else◌, option_and_then, option_map}
use Rattle.std.specs.List.{list_all}
use Rattle.std.specs.Str.{bytes_eq}
use Rattle.ac_types.specs.Limits.{most_checked, most_chained, most_steps_digits, most_steps, default_steps, most_modules}
use Rattle.acute_words.specs.Form.{Form, Given, Text, given_of}
use Rattle.acute_words.specs.WordValues.{all_in, first_in, is_file, number_within}
use Rattle.acute_words.specs.declared.command.Channel.{Channel}
use Rattle.acute_words.specs.declared.command.Channel.TheVariants as place
use Rattle.acute_words.specs.declared.command.Program.{Program}
use Rattle.acute_words.specs.declared.command.Command.{Command}
use Rattle.acute_words.specs.declared.command.Command.TheVariants as command

-- a channel: standard input or standard output, or the file of a name
pub data ChannelName : Type 0 where
  standard : ChannelName
  file : Text → ChannelName

-- the file of a program, and the file of the list of its shelf, if it has one
pub record ProgramFiles : Type 0 where
  pub file : Text
  pub shelf : Option Text

-- what a command line asks for
pub data Request : Type 0 where
  -- to run a program for at most so many steps, with a channel to read from and one to write to, where there are such
  run : ProgramFiles → ℕ → Option ChannelName → Option ChannelName → Request
  -- to print the names of a program's definitions
  names : ProgramFiles → Request
  -- to print a program's code
  code : ProgramFiles → Request
  -- to make a program from a seed, of so many modules, and to run it where the flag says so, else to print it
  make : ℕ → ℕ → Bool → Request
  -- to check the programs of files, with the file of the list of their shelf, if they have one
  check : List Text → Option Text → Request
  -- to run the programs of files one after the other, each for at most so many steps, with such a shelf; each reads what the one before it sent
  chain : List Text → Option Text → ℕ → Request
  -- to say of each frame of a channel's file whether the program of a file would take it at the type of a text
  audit : ProgramFiles → Text → Text → Request
  -- to start a tool as the sender of a file's program, and to run the program of a file on what that sends for at most so many steps, a number that stands as it was written where it was
  pipe : Text → Text → ProgramFiles → ℕ → Option Text → Request

-- the channel that a command names
abbrev pub channel_of : Channel → ChannelName
channel_of place.Standard = standard
channel_of (place.File name) = file name.now

-- the files that a command names
abbrev pub files_of : Program → ProgramFiles
files_of p = record { file = p.file.now; shelf = option_map (λ s. s.now) p.shelf }

-- what a command asks for
abbrev pub request_of : Command → Request
request_of (command.Run r) = run (files_of r.program) r.steps (option_map channel_of r.input) (option_map channel_of r.output)
request_of (command.Names p) = names (files_of p)
request_of (command.Code p) = code (files_of p)
request_of (command.Make m) = make m.seed m.modules m.runs
request_of (command.Check c) = check (map (λ s. s.now) c.files.items) (option_map (λ s. s.now) c.shelf)
request_of (command.Chain c) = chain (map (λ s. s.now) c.files.items) (option_map (λ s. s.now) c.shelf) c.steps
request_of (command.Audit a) = audit (files_of a.program) a.channel.now a.ty.now
request_of (command.Pipe p) = pipe p.tool.now p.sender.now (files_of p.receiver) p.steps (option_map (λ s. s.now) p.written)

-- run FILE [--in CH] [--out CH] [--shelf FILE] [--steps N]
abbrev pub run_form : Form
run_form = record {
  options = (codes "in", true) ∷ (codes "out", true) ∷ (codes "shelf", true) ∷ (codes "steps", true) ∷ [];
  places = record { number = 1; name = codes "FILE"; most = None } ∷ [];
}

-- names FILE [--shelf FILE], and the same of code
abbrev pub program_form : Form
program_form = record {
  options = (codes "shelf", true) ∷ [];
  places = record { number = 1; name = codes "FILE"; most = None } ∷ [];
}

-- make SEED MODULES [--run]
abbrev pub make_form : Form
make_form = record {
  options = (codes "run", false) ∷ [];
  places = record { number = 1; name = codes "SEED"; most = None } ∷ record { number = 2; name = codes "MODULES"; most = None } ∷ [];
}

-- 1 FILE, or several up to so many that stand next to one another, and these options before or behind them
abbrev pub files_form : ℕ → List (Text × Bool) → Form
files_form most options = record {
  options = options;
  places = record { number = 1; name = codes "FILE"; most = Some most } ∷ [];
}

-- check FILE.. [--shelf FILE], of 1 to `most_checked` FILEs
abbrev pub check_form : Form
check_form = files_form most_checked ((codes "shelf", true) ∷ [])

-- chain FILE.. [--shelf FILE] [--steps N], of 1 to `most_chained` FILEs
abbrev pub chain_form : Form
chain_form = files_form most_chained ((codes "shelf", true) ∷ (codes "steps", true) ∷ [])

-- audit PROGRAM CHANNEL --as TYPE [--shelf FILE]
abbrev pub audit_form : Form
audit_form = record {
  options = (codes "as", true) ∷ (codes "shelf", true) ∷ [];
  places = record { number = 1; name = codes "PROGRAM"; most = None } ∷ record { number = 2; name = codes "CHANNEL"; most = None } ∷ [];
}

-- N: a digit and no more than `most_steps_digits`, at most `most_steps`; where it isn't given, `default_steps`
abbrev pub steps_in : Option Text → Option ℕ
steps_in None = Some default_steps
steps_in (Some text) = if nat_le (length text) most_steps_digits then number_within 0 most_steps text else None

-- CH: `-`, or the name of a file
abbrev pub channel_named : Text → Option ChannelName
channel_named text = if bytes_eq text (codes "-") then Some standard else if is_file text then Some (file text) else None

-- where no CH is given, there is no channel
abbrev pub channel_in : Option Text → Option (Option ChannelName)
channel_in None = Some None
channel_in (Some text) = option_map Some (channel_named text)

-- both channels are one file
abbrev pub are_one : Option ChannelName → Option ChannelName → Bool
are_one (Some (file a)) (Some (file b)) = bytes_eq a b
are_one _ _ = false

-- where no list of a shelf is given, there is no shelf
abbrev pub shelf_in : Option Text → Option (Option Text)
shelf_in None = Some None
shelf_in (Some text) = if is_file text then Some (Some text) else None

-- the files of a program by the texts of its FILE, which has to be given, and of the FILE of its shelf
abbrev pub program_by : Option Text → Option Text → Option ProgramFiles
program_by None shelf = None
program_by (Some name) shelf = if is_file name then option_map (λ s. record { file = name; shelf = s }) (shelf_in shelf) else None

-- a `run` whose channels aren't one file
abbrev pub run_with : Option ProgramFiles → Option ℕ → Option (Option ChannelName) → Option (Option ChannelName) → Option Request
run_with (Some p) (Some steps) (Some from) (Some to) = if are_one from to then None else Some (run p steps from to)
run_with p _ _ _ = None

-- a `run` by its program and the texts of its N and of its two CH
abbrev pub run_by : Option ProgramFiles → Option Text → Option Text → Option Text → Option Request
run_by p steps from to = run_with p (steps_in steps) (channel_in from) (channel_in to)

-- SEED: a number of 64 bits
abbrev pub seed_in : Text → Option ℕ
seed_in text = number_within 0 18446744073709551615 text

-- MODULES: from 1 to `most_modules`
abbrev pub modules_in : Text → Option ℕ
modules_in text = number_within 1 most_modules text

-- a `make` of both numbers
abbrev pub make_with : Bool → Option ℕ → Option ℕ → Option Request
make_with runs (Some seed) (Some modules) = Some (make seed modules runs)
make_with runs seed modules = None

-- a `make` by the texts of its SEED and its MODULES, which have to be given, and whether `--run` is
abbrev pub make_by : Option Text → Option Text → Bool → Option Request
make_by seed modules runs = make_with runs (option_and_then seed_in seed) (option_and_then modules_in modules)

-- the files by the texts of FILEs, which have to be given
abbrev pub files_in : Option (List Text) → Option (List Text)
files_in None = None
files_in (Some texts) = if list_all is_file texts then Some texts else None

-- a `check` of files beside a shelf
abbrev pub check_with : Option (List Text) → Option (Option Text) → Option Request
check_with (Some files) (Some shelf) = Some (check files shelf)
check_with files shelf = None

-- a `check` by the texts of its FILEs and of the FILE of its shelf
abbrev pub check_by : Option (List Text) → Option Text → Option Request
check_by files shelf = check_with (files_in files) (shelf_in shelf)

-- a `chain` of files beside a shelf, for so many steps each
abbrev pub chain_with : Option (List Text) → Option (Option Text) → Option ℕ → Option Request
chain_with (Some files) (Some shelf) (Some steps) = Some (chain files shelf steps)
chain_with files shelf steps = None

-- a `chain` by the texts of its FILEs, of the FILE of its shelf and of its N
abbrev pub chain_by : Option (List Text) → Option Text → Option Text → Option Request
chain_by files shelf steps = chain_with (files_in files) (shelf_in shelf) (steps_in steps)

-- pipe TOOL A B [--shelf FILE] [--steps N]
abbrev pub pipe_form : Form
pipe_form = record {
  options = (codes "shelf", true) ∷ (codes "steps", true) ∷ [];
  places = record { number = 1; name = codes "TOOL"; most = None } ∷ record { number = 2; name = codes "A"; most = None } ∷ record { number = 3; name = codes "B"; most = None } ∷ [];
}

-- a file that has to be given
abbrev pub file_in : Option Text → Option Text
file_in None = None
file_in (Some name) = if is_file name then Some name else None

-- an `audit` of a channel by a program at the type of a text, which may be empty
abbrev pub audit_with : Option ProgramFiles → Option Text → Option Text → Option Request
audit_with (Some p) (Some channel) (Some type) = Some (audit p channel type)
audit_with p channel type = None

-- an `audit` by its program and the texts of its CHANNEL and of its TYPE, which have to be given
abbrev pub audit_by : Option ProgramFiles → Option Text → Option Text → Option Request
audit_by p channel type = audit_with p (file_in channel) type

-- the program that was given
abbrev pub program_of : Given → Option ProgramFiles
program_of given = program_by (first_in (codes "FILE") given) (first_in (codes "shelf") given)

-- a command by what was given
abbrev pub run_of : Given → Option Request
run_of given = run_by (program_of given) (first_in (codes "steps") given) (first_in (codes "in") given) (first_in (codes "out") given)

abbrev pub names_of : Given → Option Request
names_of given = option_map names (program_of given)

abbrev pub code_of : Given → Option Request
code_of given = option_map code (program_of given)

abbrev pub make_of : Given → Option Request
make_of given = make_by (first_in (codes "SEED") given) (first_in (codes "MODULES") given) (is_some (all_in (codes "run") given))

abbrev pub check_of : Given → Option Request
check_of given = check_by (all_in (codes "FILE") given) (first_in (codes "shelf") given)

abbrev pub chain_of : Given → Option Request
chain_of given = chain_by (all_in (codes "FILE") given) (first_in (codes "shelf") given) (first_in (codes "steps") given)

abbrev pub audit_of : Given → Option Request
audit_of given = audit_by (program_by (first_in (codes "PROGRAM") given) (first_in (codes "shelf") given)) (first_in (codes "CHANNEL") given) (first_in (codes "as") given)

-- a `pipe` of a tool, its program and a receiver, for so many steps
abbrev pub pipe_with : Option Text → Option Text → Option ProgramFiles → Option ℕ → Option Text → Option Request
pipe_with (Some tool) (Some sender) (Some p) (Some steps) written = Some (pipe tool sender p steps written)
pipe_with tool sender p steps written = None

-- a `pipe` by the texts of its TOOL and of its A, by the files of its receiver, and by the text of its N
abbrev pub pipe_by : Option Text → Option Text → Option ProgramFiles → Option Text → Option Request
pipe_by tool sender p written = pipe_with (file_in tool) (file_in sender) p (steps_in written) written

abbrev pub pipe_of : Given → Option Request
pipe_of given = pipe_by (first_in (codes "TOOL") given) (first_in (codes "A") given) (program_by (first_in (codes "B") given) (first_in (codes "shelf") given)) (first_in (codes "steps") given)

-- the words after a command's name, read by the command's form and then by what was given
abbrev pub words_of : Form → (Given → Option Request) → List Text → Option Request
words_of form of words = option_and_then of (given_of form words)

-- the first word is the command's name
abbrev pub command_by : Text → List Text → Option Request
command_by name rest =
    if bytes_eq name (codes "run") then words_of run_form run_of rest else
    if bytes_eq name (codes "names") then words_of program_form names_of rest else
    if bytes_eq name (codes "code") then words_of program_form code_of rest else
    if bytes_eq name (codes "make") then words_of make_form make_of rest else
    if bytes_eq name (codes "check") then words_of check_form check_of rest else
    if bytes_eq name (codes "chain") then words_of chain_form chain_of rest else
    if bytes_eq name (codes "audit") then words_of audit_form audit_of rest else
    if bytes_eq name (codes "pipe") then words_of pipe_form pipe_of rest else
    None

-- what the words of a command line ask for, or none where they are refused
abbrev pub command_of : List Text → Option Request
command_of [] = None
command_of (name ∷ rest) = command_by name rest
