use Rattle.ac_channels.proofs.ChannelLaws.{whole_channel, is_whole_channel, bad_channel, is_bad_channel}
use Rattle.ac_channels.proofs.laws.channel_is.Goals as goal

pub returns-clause-whole : goal.returns-clause-whole
returns-clause-whole c = whole_channel

pub returns-clause-is_whole : goal.returns-clause-is_whole
returns-clause-is_whole c = is_whole_channel

pub returns-clause-refused : goal.returns-clause-refused
returns-clause-refused c = bad_channel

pub returns-clause-is_refused : goal.returns-clause-is_refused
returns-clause-is_refused c = is_bad_channel
