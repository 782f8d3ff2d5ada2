pub mod BatchLaws
pub mod Saying
