use Rattle.std.proofs.Common.{List, map, ap}
use Rattle.ac_types.specs.declared.text.Text.{Text}
use Rattle.ac_channels.specs.ChannelFrames.{AllFrames}
use Rattle.acute_files.specs.Files.{reading}
use Rattle.acute_files.proofs.FileFrontLaws.{no_frames}
use Rattle.acute_files.proofs.channel.read_frames.Goals as goal

pub returns-in-End-clause-frames : goal.returns-in-End-clause-frames
returns-in-End-clause-frames g c =
    no_frames (reading g.F.Files c.args.files.now c.args.files.now c.args.name.now) c.read.new.buf _ c.in-End.ensures.bytes (ap (λ (texts : List Text). AllFrames (map (λ (text : Text). text.0) texts)) c.new.ensures)
