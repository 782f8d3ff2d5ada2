pub mod Extended
pub mod Meanings
pub mod Fits
