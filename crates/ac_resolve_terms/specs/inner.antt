pub mod Bounds
pub mod Crowd
pub mod Joining
