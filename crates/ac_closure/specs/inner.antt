pub mod Chosen
pub mod Forms
pub mod Names
pub mod Pass
