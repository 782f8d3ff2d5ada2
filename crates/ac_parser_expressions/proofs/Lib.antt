pub mod Levels
pub mod Words
pub mod Atoms
pub mod NoForms
pub mod LastOperands
pub mod Following
