pub mod FileFrontLaws
pub mod Lines
pub mod Reached
pub mod GoodLists
mod ShelfExamples
pub mod Pieces
pub mod Turns
pub mod Wider
