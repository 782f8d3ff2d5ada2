pub mod Exceptions
pub mod FrameVerdicts
pub mod TypeFaults
pub mod TypeTexts
pub mod inner
