pub mod Places
pub mod VariableNames
pub mod Shown
