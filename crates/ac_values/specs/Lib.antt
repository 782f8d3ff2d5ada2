pub mod Below
pub mod Building
pub mod Fits
pub mod ValueReaders
pub mod Values
pub mod inner
