use Rattle.std.proofs.Common.{◌≤◌, ◌-◌, IsTrue, length}
use Rattle.ac_channels.specs.ChannelFrames.{most_frames}
use Rattle.ac_channels.proofs.ReadingLaws.{HasRead}
use Rattle.ac_channels.proofs.reading.read_channel.Given as goal

abbrev pub invariant-loop-texts : goal.invariant-loop-texts
invariant-loop-texts g l = record {
  few : length l.texts ≤ most_frames;
  read : IsTrue g.S.Source.told → HasRead (g.S.Source.left l.fn.source) (g.S.Source.left l.source) l.texts (most_frames - length l.texts) l.room;
  later : g.S.Source.read_faults l.fn.source ≤ g.S.Source.read_faults l.source;
  passes : g.S.Source.passes l.fn.source l.source;
}

abbrev pub decreases-loop-texts : goal.decreases-loop-texts
decreases-loop-texts g l = most_frames - length l.texts
