pub mod Calls
pub mod Frames
pub mod Kept
pub mod Outside
pub mod FrameReaders
pub mod inner
