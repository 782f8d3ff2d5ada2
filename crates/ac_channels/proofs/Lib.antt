pub mod ChannelLaws
pub mod FrontLaws
pub mod ReadingLaws
mod ChannelExamples
