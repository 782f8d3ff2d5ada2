mod DrawExamples
mod ProgramExamples
pub mod Steps
