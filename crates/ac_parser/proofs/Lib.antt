pub mod Fronts
pub mod Lists
pub mod VersionSteps
pub mod ModuleSteps
pub mod ImportSteps
pub mod ProgramSteps
pub mod TextLaws
