-- What the words of a request ensure: the channels of a run aren't one file, and a chain has few files.
use Rattle.std.specs.Prelude.{◌≡◌, ◌≤◌, false, length}
use Rattle.ac_types.specs.Limits.{most_chained}
use Rattle.acute_words.specs.Commands.{Request, run, chain, are_one}

abbrev pub IsApart : Request → Type 0
IsApart (run p steps from to) = are_one from to ≡ false
IsApart r = Unit {0}

abbrev pub HasFewPrograms : Request → Type 0
HasFewPrograms (chain programs list steps) = length programs ≤ most_chained
HasFewPrograms r = Unit {0}
