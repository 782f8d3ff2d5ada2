-- The file that a run receives from, among the files of the system.
use Rattle.std.specs.Prelude.{ℕ, List, codes}
use Rattle.acute_words.specs.Commands.{ChannelName, standard, file}

-- the file of a channel: that of standard input, or the one that it names
abbrev pub file_received : ChannelName → List ℕ
file_received standard = codes "/dev/stdin"
file_received (file name) = name
