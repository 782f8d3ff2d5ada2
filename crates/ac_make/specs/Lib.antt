pub mod Draws
pub mod ProgramText
