pub mod ModesAlike
pub mod PartLines
pub mod GivenLaws
