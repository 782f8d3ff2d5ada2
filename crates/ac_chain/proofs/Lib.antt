pub mod Lists
pub mod MadeLaws
pub mod KnownLaws
pub mod Searches
pub mod Apart
pub mod NativeLaws
pub mod Streams
pub mod RunLaws
pub mod ChainLaws
pub mod LoadLaws
pub mod ProvenanceLaws
pub mod Endings
pub mod Sending
mod ChainExamples
