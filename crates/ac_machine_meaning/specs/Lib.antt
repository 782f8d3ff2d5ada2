pub mod Stands
pub mod Valid
