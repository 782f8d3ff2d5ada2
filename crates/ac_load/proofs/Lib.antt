mod TreeLaws
mod ShelfLaws
pub mod Loaded
pub mod NeverMemory
pub mod OneRejection
