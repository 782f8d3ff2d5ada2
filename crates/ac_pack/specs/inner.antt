pub mod PackFaults
pub mod Needs
pub mod Ready
pub mod Wholes
pub mod Landed
