pub mod Comments
mod Examples
pub mod Fronts
pub mod GapLaws
pub mod NameLaws
pub mod Reading
pub mod Spelled
pub mod Strings
pub mod Unique
pub mod Values
