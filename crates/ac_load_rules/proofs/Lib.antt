pub mod Firsts
pub mod OneAnswer
mod PartLaws
mod Sooner
mod Standing
mod Behind
mod Distinct
mod SignBounds
mod TreeBounds
mod DefBounds
mod OutsideTypes
mod FineTypes
mod FineTerms
mod FineDefs
mod SmallTerms
mod SmallDefs
mod Grown
pub mod Coherence
pub mod Counted
mod LoadSamples
mod LoadExamples
mod DigestExample
