pub mod Entries
pub mod Fronts
pub mod Primitives
pub mod inner
