pub mod Copies
pub mod Strings
pub mod Beginnings
