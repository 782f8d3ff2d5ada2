-- What is left of an input behind receives.
use Rattle.std.specs.Prelude.{List, [], ◌∷◌}
use Rattle.ac_types.specs.Types.{Bytes}
use Rattle.ac_outside.specs.Frames.{Frame, Whole, Bad, AtEnd, next_frame}
use Rattle.ac_meaning.specs.Worlds.{Trace}

-- what is left behind a frame, or the input itself where it begins with none
abbrev pub past_frame : Frame → Bytes → Bytes
past_frame (Whole s rest) input = rest
past_frame (Bad n got) input = input
past_frame AtEnd input = input

-- what is left behind these receives, each of which takes the frame that comes next, if one does
abbrev pub behind_receives : List Trace → Bytes → Bytes
behind_receives [] input = input
behind_receives (receive ∷ more) input = behind_receives more (past_frame (next_frame input) input)
