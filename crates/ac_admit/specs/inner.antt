pub mod Judging
pub mod Spoken
