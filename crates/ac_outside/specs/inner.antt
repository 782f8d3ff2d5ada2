pub mod FilePlaces
pub mod Filling
pub mod FrameParts
