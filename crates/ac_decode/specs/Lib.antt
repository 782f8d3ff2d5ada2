pub mod inner
pub mod Decoding
