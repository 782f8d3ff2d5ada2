pub mod Sizes
pub mod Generate
pub mod Generated
pub mod inner
