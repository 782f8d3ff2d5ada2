pub mod Inputs
pub mod Moments
pub mod Sessions
pub mod Course
pub mod inner
pub mod Journals
