pub mod References
pub mod AddedEntries
pub mod Samples
mod HidingExamples
mod OwnTypeExamples
mod OutsideExamples
mod ImportExamples
mod StandardExamples
mod RepeatedExamples
mod ShelfExamples
mod CountExamples
mod ProgramExamples
