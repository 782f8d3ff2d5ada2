pub mod Courses
pub mod Hearing
pub mod Starts
pub mod Crossings
