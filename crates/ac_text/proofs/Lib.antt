mod LiteralExamples
pub mod PlaceLaws
pub mod Steps
