pub mod Source
pub mod Running
pub mod Placed
pub mod Alike
