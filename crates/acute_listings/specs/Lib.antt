pub mod DefinitionNames
pub mod Listing
