pub mod Chains
pub mod Fitting
