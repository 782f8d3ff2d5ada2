pub mod Behind
pub mod Failing
pub mod FileFronts
pub mod Fronts
pub mod ShelfReads
