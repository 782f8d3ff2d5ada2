pub mod ExactReading
pub mod ExactTypes
pub mod Readers
pub mod inner
