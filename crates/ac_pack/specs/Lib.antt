pub mod Packs
pub mod Crossing
pub mod inner
