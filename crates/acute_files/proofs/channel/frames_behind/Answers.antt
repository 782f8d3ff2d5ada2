use Rattle.std.proofs.Common.{◌≡◌, ◌∷◌, IsTrue, List, map}
use Rattle.ac_types.specs.declared.text.Text.{Text}
use Rattle.ac_channels.specs.ChannelFrames.{AllFrames, BadFrame, channel_frames}
use Rattle.acute_files.specs.ChannelFiles.{HasFrames}
use Rattle.acute_files.specs.Files.{Reading, reading}
use Rattle.acute_files.specs.inner.FileFronts.{front_left}
use Rattle.acute_files.proofs.FileFrontLaws.{frames_told, told_of}
use Rattle.acute_files.proofs.channel.frames_behind.Goals as goal

pub returns-clause-frames : goal.returns-clause-frames
returns-clause-frames g c =
    let file : Reading = reading g.F.Files c.args.files.now c.args.files.now c.args.name.now in
    told_of (IsTrue g.F.Files.told) c.read_channel.result
    (λ (texts : List Text). channel_frames (c.args.first ∷ front_left file.bytes 1) ≡ AllFrames (map (λ (text : Text). text.0) texts))
    (λ (texts : List Text). HasFrames file (AllFrames (map (λ (text : Text). text.0) texts)))
    (λ (texts : List Text) h. frames_told file c.args.first (AllFrames (map (λ (text : Text). text.0) texts)) c.requires h)
    c.read_channel.ensures.whole

pub returns-clause-refused : goal.returns-clause-refused
returns-clause-refused g c = λ k is.
    let file : Reading = reading g.F.Files c.args.files.now c.args.files.now c.args.name.now in
    frames_told file c.args.first (BadFrame k) c.requires (λ told. c.read_channel.ensures.refused told k is)
