pub mod ChannelFrames
pub mod WholeChannels
pub mod inner
