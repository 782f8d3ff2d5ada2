pub mod Children
pub mod Kept
