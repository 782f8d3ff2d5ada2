pub mod FitLaws
pub mod Printing
pub mod Unique
pub mod VersionSteps
pub mod RangeSteps
pub mod Examples
